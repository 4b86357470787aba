-- A text that spells a schedule is read as it, and what is read was spelled so.
use Rattle.std.proofs.Common.{◌≡◌, ℕ, ◌+◌, ◌^◌, ◌≤◌, Bool, true, false, cond, List, [], ◌∷◌, ◌++◌, length, map, Option}
use Rattle.std.proofs.Common.{None, Some, refl, ap, sym, ◌∙◌, subst, arith, lit≤}
use Rattle.std.specs.Prelude.{Result, Ok, Err, ok_or, not, flat_map}
use Rattle.std.specs.Option.{option_map}
use Rattle.std.specs.Result.{result_unwrap_or}
use Rattle.std.proofs.lemmas.Option.{same_Some}
use Rattle.world.specs.declared.events.Event.{Event}
use Rattle.schedules.specs.declared.event_lines.EventLine.{EventLine}
use Rattle.schedules.specs.Splits.{is_passed_over, lines, counted_from}
use Rattle.schedules.specs.HeadLines.{servers_line, homes_line}
use Rattle.schedules.specs.EventLines.{event_line, events_in, events_line}
use Rattle.schedules.specs.Schedules.{ScheduleShown, ◌>>=◌, events_of, schedule_of_lines, schedule_of}
use Rattle.schedules.specs.SpelledSchedules.{counted_lines, IsEventLine, AreEventLines, SpellsSchedule}
use Rattle.schedules.proofs.SplitLaws.{lines_read, lines_spelled}
use Rattle.schedules.proofs.EventLineLaws.{event_read, event_spelled}
use Rattle.schedules.proofs.HeadLineLaws.{servers_read, servers_spelled, homes_read, homes_spelled}

-- the bytes of a numbered line
abbrev pub text_of_line : ℕ × List ℕ → List ℕ
text_of_line line = line.1

-- the numbered lines that count are those that count
numbered_lines : (n : ℕ) (ls : List (List ℕ)) → map text_of_line (counted_from n ls) ≡ counted_lines ls
numbered_lines n [] = refl
numbered_lines n (l ∷ ls) = by_test (is_passed_over l) (numbered_lines (n + 1) ls)
  where
    by_test : (b : Bool)
        → map text_of_line (counted_from (n + 1) ls) ≡ counted_lines ls
        → map text_of_line (cond b (counted_from (n + 1) ls) ((n, l) ∷ counted_from (n + 1) ls)) ≡ cond (not b)
        (l ∷ counted_lines ls) (counted_lines ls)
    by_test true rest = rest
    by_test false rest = ap (λ r. l ∷ r) rest

-- what was read, and what came of it
pub read_parts : {X Y : Type 0} (r : Result X ℕ) (next : X → Result Y ℕ) (y : Y)
    → r >>= next ≡ Ok y
    → (x : X) × (r ≡ Ok x) × (next x ≡ Ok y)
read_parts (Err bad) next y h = cc
read_parts (Ok x) next y h = (x, refl, h)

says_some : {X : Type 0} (o : Option X) (n : ℕ) (x : X) → ok_or o n ≡ Ok x → o ≡ Some x
says_some None n x h = cc
says_some (Some y) n x h = cc

same_Ok : {X : Type 0} (x y : X) → ◌≡◌ {A = Result X ℕ} (Ok x) (Ok y) → x ≡ y
same_Ok {X} x y e = ap (λ (r : Result X ℕ). result_unwrap_or r x) e

-- lines of events are read as theirs
events_read : (count connections : ℕ) (said : List EventLine) (ls : List (ℕ × List ℕ))
    → AreEventLines said (map text_of_line ls)
    → events_of count connections ls ≡ Ok (flat_map (events_in count connections) said)
events_read count connections [] [] h = refl
events_read count connections [] (l ∷ ls) h = absurd h
events_read count connections (s ∷ said) [] h = absurd h
events_read count connections (s ∷ said) (l ∷ ls) h =
    rw (event_read s l.1 h.0, events_read count connections said ls h.1) refl

-- the count of a chain's servers is a number of eight bytes
pub wide : (count : ℕ) → count ≤ 16 → count ≤ 2 ^ 64
wide count few = let enough : 16 ≤ 2 ^ 64 = lit≤ tt in omega arith

-- what spells a schedule is read as it
pub spelled_read : (text : List ℕ) (s : ScheduleShown) → SpellsSchedule text s → schedule_of text ≡ Ok s
spelled_read text s h =
    let same : lines text ≡ h.all = lines_read h.all text h.lines in
    rw same (by_lines (length h.all + 1) (counted_from 1 h.all) (numbered_lines 1 h.all ∙ h.counted))
  where
    by_lines : (end : ℕ) (ls : List (ℕ × List ℕ))
        → map text_of_line ls ≡ h.first ∷ h.second ∷ h.further
        → schedule_of_lines end ls ≡ Ok s
    by_lines end [] is = absurd cc
    by_lines end (a ∷ []) is = absurd cc
    by_lines end (a ∷ b ∷ more) is =
        let first : a.1 ≡ h.first = cc in
        let second : b.1 ≡ h.second = cc in
        let further : map text_of_line more ≡ h.further = cc in
        let servers = servers_read s.count h.first h.servers in
        let homes = homes_read s.count s.homes h.second (wide s.count h.servers.1) h.homes in
        let events = events_read s.count (length s.homes) h.said more (rw further h.each) in
        rw (first, servers, second, homes, events, ← h.events) refl

-- events that are read are those of lines of events
pub record SaidEvents (count connections : ℕ) (ls : List (List ℕ)) (es : List Event) : Type 0 where
  pub said : List EventLine
  pub each : AreEventLines said ls
  pub events : es ≡ flat_map (events_in count connections) said

events_line_spelled : (count connections : ℕ) (line : List ℕ) (es : List Event)
    → events_line count connections line ≡ Some es
    → (said : EventLine) × IsEventLine said line × (es ≡ events_in count connections said)
events_line_spelled count connections line es h = by_line (event_line line) refl h
  where
    by_line : (o : Option EventLine)
        → event_line line ≡ o
        → option_map (events_in count connections) o ≡ Some es
        → (said : EventLine) × IsEventLine said line × (es ≡ events_in count connections said)
    by_line None is e = cc
    by_line (Some said) is e =
        (said, event_spelled line said is, sym (same_Some (events_in count connections said) es e))

joined : (xs ys us vs : List Event) → xs ≡ us → ys ≡ vs → xs ++ ys ≡ us ++ vs
joined xs ys us vs first others = rw (first, others) refl

events_spelled : (count connections : ℕ) (ls : List (ℕ × List ℕ)) (es : List Event)
    → events_of count connections ls ≡ Ok es
    → SaidEvents count connections (map text_of_line ls) es
events_spelled count connections [] es h = record { said = []; each = tt; events = sym (same_Ok [] es h) }
events_spelled count connections (l ∷ ls) es h =
    let own = read_parts (ok_or (events_line count connections l.1) l.0) _ es h in
    let more = read_parts (events_of count connections ls) _ es own.2 in
    let (said, is, events) =
    events_line_spelled count connections l.1 own.0 (says_some (events_line count connections l.1) l.0 own.0 own.1) in
    let others = events_spelled count connections ls more.0 more.1 in
    record {
      said = said ∷ others.said;
      each = (is, others.each);
      events = sym (same_Ok (own.0 ++ more.0) es more.2) ∙ joined own.0 more.0 _ _ events others.events;
    }

-- what is read was spelled so
pub read_spelled : (text : List ℕ) (s : ScheduleShown) → schedule_of text ≡ Ok s → SpellsSchedule text s
read_spelled text s h =
    by_lines (length (lines text) + 1) (counted_from 1 (lines text)) (numbered_lines 1 (lines text)) h
  where
    by_lines : (end : ℕ) (ls : List (ℕ × List ℕ))
        → map text_of_line ls ≡ counted_lines (lines text)
        → schedule_of_lines end ls ≡ Ok s
        → SpellsSchedule text s
    by_lines end [] is e = absurd cc
    by_lines end (a ∷ []) is e =
        let count = read_parts (ok_or (servers_line a.1) a.0) _ s e in
        absurd (let none = count.2 in cc)
    by_lines end (a ∷ b ∷ more) is e =
        let count = read_parts (ok_or (servers_line a.1) a.0) _ s e in
        let homes = read_parts (ok_or (homes_line count.0 b.1) b.0) _ s count.2 in
        let events = read_parts (events_of count.0 (length homes.0) more) _ s homes.2 in
        let servers = servers_spelled a.1 count.0 (says_some (servers_line a.1) a.0 count.0 count.1) in
        let at_homes =
        homes_spelled count.0 b.1 homes.0 (wide count.0 servers.1)
        (says_some (homes_line count.0 b.1) b.0 homes.0 homes.1) in
        let each = events_spelled count.0 (length homes.0) more events.0 events.1 in
        subst (SpellsSchedule text) (same_Ok (record { count = count.0; homes = homes.0; events = events.0 }) s
        events.2)
        (record {
          all = lines text;
          first = a.1;
          second = b.1;
          further = map text_of_line more;
          said = each.said;
          lines = lines_spelled text;
          counted = sym is;
          servers = servers;
          homes = at_homes;
          each = each.each;
          events = each.events;
        })

-- a text spells one schedule at most
pub one_schedule : (text : List ℕ) (s t : ScheduleShown) → SpellsSchedule text s → SpellsSchedule text t → s ≡ t
one_schedule text s t one two = same_Ok s t (sym (spelled_read text s one) ∙ spelled_read text t two)
