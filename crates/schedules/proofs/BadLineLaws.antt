-- The bad line that is named is the first that is not as stated.
use Rattle.std.proofs.Common.{◌≡◌, ℕ, ◌+◌, ◌<◌, ◌⊎◌, inl, inr, Bool, true, false, cond, List, [], ◌∷◌, ◌++◌, length}
use Rattle.std.proofs.Common.{drop, Option, None, Some, refl, ap, sym, ◌∙◌, subst, arith, append_assoc, append-nil}
use Rattle.std.proofs.Common.{length-append, lit<}
use Rattle.std.specs.Prelude.{Result, Ok, Err, ok_or, not}
use Rattle.std.specs.Option.{option_map}
use Rattle.std.proofs.lemmas.Option.{same_Some}
use Rattle.std.proofs.lemmas.List.Elements.{filter-append}
use Rattle.world.specs.declared.events.Event.{Event}
use Rattle.schedules.specs.declared.event_lines.EventLine.{EventLine}
use Rattle.schedules.specs.Splits.{is_passed_over, lines, counted_from}
use Rattle.schedules.specs.HeadLines.{servers_line, homes_line}
use Rattle.schedules.specs.EventLines.{event_line, events_in, events_line}
use Rattle.schedules.specs.Schedules.{ScheduleShown, ◌>>=◌, first_says, events_of, schedule_of_lines, schedule_of}
use Rattle.schedules.specs.SpelledSchedules.{counted_lines, AreLines, IsServersLine, IsHomesLine, AreEventLines}
use Rattle.schedules.specs.SpelledSchedules.{AreAsStated, IsFirstBad}
use Rattle.schedules.proofs.SplitLaws.{lines_spelled}
use Rattle.schedules.proofs.EventLineLaws.{event_read, event_spelled}
use Rattle.schedules.proofs.HeadLineLaws.{servers_read, servers_spelled, homes_read, homes_spelled}
use Rattle.schedules.proofs.ScheduleLaws.{wide}
use Rattle.schedules.proofs.StatedLines.{IsFirstOf, same_Err, one_counts, one_passed, one_longer, regrouped, are_more}
use Rattle.schedules.proofs.StatedLines.{last_is}

module _ (count : ℕ) (homes : List ℕ) (first second : List ℕ) (servers : IsServersLine count first)
    (at_homes : IsHomesLine count homes second) (connections : ℕ) (all : List (List ℕ)) (n : ℕ) where
  abbrev Goes : List (List ℕ) → List (List ℕ) → ℕ → Result (List Event) ℕ → Type 0
  Goes front rest m r =
      (further : List (List ℕ)) (said : List EventLine)
      → all ≡ front ++ rest
      → m ≡ length front + 1
      → counted_lines front ≡ first ∷ second ∷ further
      → AreEventLines said further
      → r ≡ Err n
      → IsFirstOf all n

  -- after the head: the first line that says nothing of events
  bad_event : (rest front : List (List ℕ)) (m : ℕ)
      → Goes front rest m (events_of count connections (counted_from m rest))
  bad_event [] front m further said split number counted each h = cc
  bad_event (line ∷ later) front m further said split number counted each h =
      by_test (is_passed_over line) refl (bad_event later (front ++ line ∷ []) (m + 1)) h
    where
      not_as_stated : is_passed_over line ≡ false
          → events_line count connections line ≡ None
          → AreAsStated (counted_lines (front ++ line ∷ []))
          → ⊥
      not_as_stated counts none st =
          let whole : counted_lines (front ++ line ∷ []) ≡ first ∷ second ∷ (further ++ line ∷ []) =
          one_counts front line counts ∙ ap (λ ls. ls ++ line ∷ []) counted in
          let (c, hs, all_said, s, hl, lines_are) = subst AreAsStated whole st in
          let (last, is) = last_is all_said further line lines_are in
          let read = event_read last line is in
          let found : events_line count connections line ≡ Some (events_in count connections last) =
          ap (option_map (events_in count connections)) read in
          cc

      by_events : (o : Option EventLine)
          → event_line line ≡ o
          → is_passed_over line ≡ false
          → Goes (front ++ line ∷ []) later (m + 1) (events_of count connections (counted_from (m + 1) later))
          → (ok_or (option_map (events_in count connections) o) m
          >>= (λ own. events_of count connections (counted_from (m + 1) later) >>= (λ more. Ok (own ++ more))))
          ≡ Err n → IsFirstOf all n
      by_events None is counts on e =
          let here : m ≡ n = same_Err m n e in
          let none : events_line count connections line ≡ None = ap (option_map (events_in count connections)) is in
          record {
            before = front;
            others = line ∷ later;
            split = split;
            number = sym here ∙ number;
            as_stated = rw counted (count, homes, said, servers, at_homes, each);
            bad = not_as_stated counts none;
          }
      by_events (Some s) is counts on e =
          by_more (events_of count connections (counted_from (m + 1) later)) e
          (on (further ++ line ∷ []) (said ++ s ∷ []) (regrouped all front later line split)
          (one_longer front line m number)
          (one_counts front line counts ∙ ap (λ ls. ls ++ line ∷ []) counted)
          (are_more said further s line each (event_spelled line s is)))
        where
          by_more : (r : Result (List Event) ℕ)
              → (r >>= (λ more. Ok (events_in count connections s ++ more))) ≡ Err n
              → (r ≡ Err n → IsFirstOf all n)
              → IsFirstOf all n
          by_more (Ok more) e on = cc
          by_more (Err bad) e on = on e

      by_test : (b : Bool)
          → is_passed_over line ≡ b
          → Goes (front ++ line ∷ []) later (m + 1) (events_of count connections (counted_from (m + 1) later))
          → events_of count connections (cond b (counted_from (m + 1) later)
          ((m, line) ∷ counted_from (m + 1) later)) ≡ Err n → IsFirstOf all n
      by_test true passed on e =
          on further said (regrouped all front later line split) (one_longer front line m number)
          (one_passed front line passed ∙ counted) each e
      by_test false counts on e = by_events (event_line line) refl counts on e

-- The next line that counts, of lines that are numbered from m.
record IsNext (m : ℕ) (rest : List (List ℕ)) : Type 0 where
  passed : List (List ℕ)
  line : List ℕ
  later : List (List ℕ)
  split : rest ≡ passed ++ line ∷ later
  none : counted_lines passed ≡ []
  counts : is_passed_over line ≡ false
  numbered : counted_from m rest ≡ (m + length passed, line) ∷ counted_from (m + length passed + 1) later

abbrev NoneCounts : ℕ → List (List ℕ) → Type 0
NoneCounts m rest = (counted_from m rest ≡ []) × (counted_lines rest ≡ [])

renumbered : (a b : ℕ) (line : List ℕ) (later : List (List ℕ))
    → a ≡ b
    → (a, line) ∷ counted_from (a + 1) later ≡ (b, line) ∷ counted_from (b + 1) later
renumbered a b line later e = ap (λ k. (k, line) ∷ counted_from (k + 1) later) e

next_line : (rest : List (List ℕ)) (m : ℕ) → NoneCounts m rest ⊎ IsNext m rest
next_line [] m = inl (refl, refl)
next_line (l ∷ ls) m = by_test (is_passed_over l) refl (next_line ls (m + 1))
  where
    by_test : (b : Bool)
        → is_passed_over l ≡ b
        → NoneCounts (m + 1) ls ⊎ IsNext (m + 1) ls
        → NoneCounts m (l ∷ ls) ⊎ IsNext m (l ∷ ls)
    by_test true is (inl (numbered, counted)) = inl (rw is numbered, rw is counted)
    by_test true is (inr h) = inr (record {
      passed = l ∷ h.passed;
      line = h.line;
      later = h.later;
      split = ap (λ r. l ∷ r) h.split;
      none = rw is h.none;
      counts = h.counts;
      numbered =
          rw is (h.numbered ∙ renumbered (m + 1 + length h.passed) (m + length (l ∷ h.passed)) h.line h.later
          (omega arith));
    })
    by_test false is h =
        inr (record {
          passed = [];
          line = l;
          later = ls;
          split = refl;
          none = refl;
          counts = is;
          numbered = rw is (renumbered m (m + 0) l ls (omega arith));
        })

only_error : {X Y : Type 0} (r : Result X ℕ) (f : X → Y) (n : ℕ) → (r >>= (λ x. Ok (f x))) ≡ Err n → r ≡ Err n
only_error (Ok x) f n h = cc
only_error {X} (Err bad) f n h = ap Err (same_Err bad n h)

abbrev shown : ℕ → List ℕ → List Event → ScheduleShown
shown count homes events = record { count = count; homes = homes; events = events }

-- the text ends, and `servers` or `homes` is missing
ended : (all : List (List ℕ)) (n : ℕ)
    → n ≡ length all + 1
    → AreAsStated (counted_lines all)
    → length (counted_lines all) < 2
    → IsFirstOf all n
ended all n number stated few =
    record { before = all; others = []; split = sym (append-nil all); number = number; as_stated = stated; bad = few }

-- after `servers`: no line is left, or the next isn't of homes, or a later one is bad
bad_homes : (all front rest : List (List ℕ)) (m n : ℕ) (first : List ℕ) (count : ℕ)
    → all ≡ front ++ rest
    → m ≡ length front + 1
    → counted_lines front ≡ first ∷ []
    → IsServersLine count first
    → (first_says (homes_line count) (length all + 1) (counted_from m rest)
    >>= (λ homes. events_of count (length homes) (drop 1 (counted_from m rest))
    >>= (λ events. Ok (shown count homes events)))) ≡ Err n → IsFirstOf all n
bad_homes all front rest m n first count split number counted servers h = elim (next_line rest m) [
  | inl (none, empty) ↦
      let only : counted_lines all ≡ first ∷ [] =
      ap counted_lines split ∙ filter-append (λ l. not (is_passed_over l)) front rest ∙ rw (counted, empty) refl in
      ended all n (sym (same_Err _ n (rw none at h))) (rw only (count, servers)) (rw only (lit< tt))
  | inr x ↦ by_homes x (homes_line count x.line) refl (rw x.numbered at h)
]
  where
    by_homes : (x : IsNext m rest) (o : Option (List ℕ)) → homes_line count x.line ≡ o
        → (ok_or o (m + length x.passed) >>= (λ homes. events_of count (length homes)
        (counted_from (m + length x.passed + 1) x.later) >>= (λ events. Ok (shown count homes events)))) ≡ Err n
        → IsFirstOf all n
    by_homes x o is e =
        let before : List (List ℕ) = front ++ x.passed in
        let whole : all ≡ before ++ x.line ∷ x.later =
        split ∙ ap (λ r. front ++ r) x.split ∙ sym (append_assoc front x.passed (x.line ∷ x.later)) in
        let only : counted_lines before ≡ first ∷ [] =
        filter-append (λ l. not (is_passed_over l)) front x.passed ∙ rw (counted, x.none) refl in
        let both : counted_lines (before ++ x.line ∷ []) ≡ first ∷ x.line ∷ [] =
        one_counts before x.line x.counts ∙ ap (λ ls. ls ++ x.line ∷ []) only in
        let ordinal : m + length x.passed ≡ length before + 1 = omega (arith, length-append front x.passed) in
        at before whole only both ordinal o is e
      where
        at : (before : List (List ℕ))
            → all ≡ before ++ x.line ∷ x.later
            → counted_lines before ≡ first ∷ []
            → counted_lines (before ++ x.line ∷ []) ≡ first ∷ x.line ∷ []
            → m + length x.passed ≡ length before + 1
            → (o : Option (List ℕ)) → homes_line count x.line ≡ o
            → (ok_or o (m + length x.passed) >>= (λ homes. events_of count (length homes)
            (counted_from (m + length x.passed + 1) x.later) >>= (λ events. Ok (shown count homes events))))
            ≡ Err n → IsFirstOf all n
        at before whole only both ordinal None is e =
            record {
              before = before;
              others = x.line ∷ x.later;
              split = whole;
              number = sym (same_Err _ n e) ∙ ordinal;
              as_stated = rw only (count, servers);
              bad = λ st. not_homes (subst AreAsStated both st);
            }
          where
            not_homes : AreAsStated (first ∷ x.line ∷ []) → ⊥
            not_homes (c, hs, said, s, hl, each) =
                let same : c ≡ count =
                same_Some c count (sym (servers_read c first s) ∙ servers_read count first servers) in
                let read : homes_line count x.line ≡ Some hs =
                homes_read count hs x.line (wide count servers.1) (subst (λ k. IsHomesLine k hs x.line) same hl) in
                cc
        at before whole only both ordinal (Some homes) is e =
            bad_event count homes first x.line servers (homes_spelled count x.line homes (wide count servers.1) is)
            (length homes) all n x.later (before ++ x.line ∷ []) (m + length x.passed + 1)
            [] [] (regrouped all before x.later x.line whole) (one_longer before x.line (m + length x.passed) ordinal)
            both tt
            (only_error (events_of count (length homes) (counted_from (m + length x.passed + 1) x.later))
            (shown count homes) n e)

-- the bad line that is named of some lines is the first that isn't as stated
pub bad_servers : (all : List (List ℕ)) (n : ℕ)
    → schedule_of_lines (length all + 1) (counted_from 1 all) ≡ Err n
    → IsFirstOf all n
bad_servers all n h = elim (next_line all 1) [
  | inl (none, empty) ↦ ended all n (sym (same_Err _ n (rw none at h))) (rw empty tt) (rw empty (lit< tt))
  | inr x ↦ by_servers x (servers_line x.line) refl (rw x.numbered at h)
]
  where
    by_servers : (x : IsNext 1 all) (o : Option ℕ) → servers_line x.line ≡ o
        → (ok_or o (1 + length x.passed) >>= (λ count. first_says (homes_line count) (length all + 1)
        (counted_from (1 + length x.passed + 1) x.later)
        >>= (λ homes. events_of count (length homes) (drop 1 (counted_from (1 + length x.passed + 1) x.later))
        >>= (λ events. Ok (shown count homes events))))) ≡ Err n → IsFirstOf all n
    by_servers x None is e =
        let only : counted_lines (x.passed ++ x.line ∷ []) ≡ x.line ∷ [] =
        one_counts x.passed x.line x.counts ∙ ap (λ ls. ls ++ x.line ∷ []) x.none in
        record {
          before = x.passed;
          others = x.line ∷ x.later;
          split = x.split;
          number = sym (same_Err _ n e) ∙ omega arith;
          as_stated = rw x.none tt;
          bad = λ st. not_servers (subst AreAsStated only st);
        }
      where
        not_servers : AreAsStated (x.line ∷ []) → ⊥
        not_servers (c, s) = let read = servers_read c x.line s in cc
    by_servers x (Some count) is e =
        let only : counted_lines (x.passed ++ x.line ∷ []) ≡ x.line ∷ [] =
        one_counts x.passed x.line x.counts ∙ ap (λ ls. ls ++ x.line ∷ []) x.none in
        bad_homes all (x.passed ++ x.line ∷ []) x.later (1 + length x.passed + 1) n x.line count
        (regrouped all x.passed x.later x.line x.split)
        (one_longer x.passed x.line (1 + length x.passed) (omega arith)) only (servers_spelled x.line count is) e

-- the bad line that is named is the first
pub named_first : (text : List ℕ) (n : ℕ) → schedule_of text ≡ Err n → IsFirstBad n text
named_first text n h =
    let f = bad_servers (lines text) n h in
    record {
      before = f.before;
      others = f.others;
      lines =
          subst (λ ls. AreLines ls text) f.split (lines_spelled text);
      number =
          f.number;
      as_stated = f.as_stated;
      bad = f.bad;
    }
