-- What a connection comes to while updates are taken ahead of their turns.
use Rattle.std.proofs.Common.{◌≡◌, ℕ, zero, suc, ◌+◌, ◌≤◌, Bool, true, false, List, [], ◌∷◌, ◌++◌, length, take, drop}
use Rattle.std.proofs.Common.{Option, None, Some, not, refl, sym, ap, subst, ◌∙◌, arith, cond, append-nil}
use Rattle.std.proofs.Common.{MatchOption, append_assoc, length-append, take-append-drop}
use Rattle.std.proofs.lemmas.Bool.{not-false}
use Rattle.std.proofs.lemmas.List.{take_at, drop_at, drop-append-le}
use Rattle.table.specs.Operations.{is_update}
use Rattle.table.specs.declared.operations.Call.{Call}
use Rattle.table.specs.declared.operations.Reply.{Reply}
use Rattle.proto.specs.declared.texts.Form.{Form}
use Rattle.proto.specs.declared.ahead.Update.{Update}
use Rattle.proto.specs.declared.sessions.Step.{Step}
use Rattle.proto.specs.Turns.{Turn, Calls, Outcome, Replied, Refused, calls_of, form_of, looks, text, refusal_text}
use Rattle.proto.specs.Sessions.{Held, CanAnswer, CanRefuse, fed, kept, passed, answered_by, refused_by}
use Rattle.proto.specs.Sessions.{next_of}
use Rattle.proto.specs.Sessions.{IsOpen, Tells, shows}
use Rattle.proto.specs.Streams.{to_come, turns, unread_turns}
use Rattle.proto.specs.Runs.{IsRun, Acts, Feed, Next, Answer, Refuse, turn_given, taken_from, open_calls}
use Rattle.proto.specs.Ahead.{IsBetween, IsTakenAhead}
use Rattle.proto.proofs.AheadLaws.{calls_ahead, first_call, next_ahead, one_more_ahead}
use Rattle.proto.proofs.WriteLaws.{calls_of_more}
use Rattle.serving.specs.Wanted.{HasStepped}
use Rattle.serving.specs.Connections.{IsBegun, IsAsked, IsLooked, HasOutcome, MayHave, MayRefuse, IsReached}
use Rattle.serving.specs.Connections.{IsAskedAhead, IsReachedAhead, MayBeAhead, WentAhead, calls_open, reached}
use Rattle.serving.specs.Connections.{WaitsForUpdate, resumed}
use Rattle.serving.proofs.Reaching.{run_of, count, rest_count, all_calls, waiting_are, begun, can_answer, can_refuse}
use Rattle.serving.proofs.Reaching.{some_form, some_refused, reached_answered, seen_answered, reached_refused}
use Rattle.serving.proofs.Reaching.{seen_refused, reached_written, reached_fed, seen_fed}
use Rattle.serving.proofs.Stepping.{stepped_by}

-- ---- counts and lists

open_more : (ahead : List Bool) (asked : Option Form) → calls_open ahead asked ≡ length ahead + open_calls asked
open_more [] asked = omega arith
open_more (silent ∷ later) asked = omega (arith, open_more later asked)

same_open : (ahead : List Bool) (a b : Option Form) → open_calls a ≡ open_calls b
    → calls_open ahead a ≡ calls_open ahead b
same_open [] a b e = e
same_open (silent ∷ later) a b e = ap suc (same_open later a b e)

-- the first of those that wait, and the others
first_waits : {X : Type 0} (xs : List X) (n m : ℕ) (x : X) (later : List X) → take (suc m) (drop n xs) ≡ x ∷ later
    → (take m (drop (suc n) xs) ≡ later) × (take (suc n) xs ≡ take n xs ++ x ∷ [])
first_waits [] zero m x later e = absurd cc
first_waits [] (suc n) m x later e = absurd cc
first_waits (y ∷ ys) zero m x later e =
    let head : y ≡ x = cc in
    let tail : take m ys ≡ later = cc in
    (tail, ap (λ z. z ∷ []) head)
first_waits (y ∷ ys) (suc n) m x later e =
    let rest = first_waits ys n m x later e in
    (rest.0, ap (λ zs. y ∷ zs) rest.1)

update_shows : (silent : Bool) → shows (form_of silent) ≡ false
update_shows true = refl
update_shows false = refl

-- ---- between two requests

come_between : (h : Held) → IsBetween h → to_come h ≡ turns h.unread
come_between h b =
    ap (λ c. cond c [] (looks h.later h.unique ++ unread_turns h.skipped_block h.unread)) b.unclosed
    ∙ (ap (λ keys. looks keys h.unique ++ unread_turns h.skipped_block h.unread) b.later
    ∙ ap (λ q. unread_turns q h.unread) b.skipped_block)

fed_between : (h : Held) (more : List ℕ) → IsBetween h → fed h more ≡ record h { unread = h.unread ++ more }
fed_between h more b =
    ap (λ c. cond c h (record h
    { unread = h.unread ++ kept h.skipped_block more; skipped_block = passed h.skipped_block more })) b.unclosed
    ∙ (ap (λ q. record h { unread = h.unread ++ kept q more; skipped_block = passed q more }) b.skipped_block
    ∙ ap (λ q. record h { unread = h.unread ++ more; skipped_block = q }) (sym b.skipped_block))

-- ---- none was taken ahead

pub plain : (read : List ℕ) (outcomes : List Outcome) (written : List ℕ) (held : Held)
    → IsReachedAhead read outcomes written held [] → IsReached read outcomes written held
plain read outcomes written held r =
    subst (λ b. IsReached read outcomes written (record held { unread = b ++ held.unread })) r.taken r.reached

pub as_ahead : (read : List ℕ) (outcomes : List Outcome) (written : List ℕ) (held : Held)
    → IsReached read outcomes written held → IsReachedAhead read outcomes written held []
as_ahead read outcomes written held r = record { bytes = []; reached = r; taken = refl; may_be = tt }

-- ---- what waits, between two requests

module _ (read : List ℕ) (outcomes : List Outcome) (written : List ℕ) (held : Held) (ahead : List Bool)
    (r : IsReachedAhead read outcomes written held ahead) (b : IsBetween held) where
  -- the session with all that the run hasn't given
  abbrev whole : Held
  whole = record held { unread = r.bytes ++ held.unread }

  between : IsBetween whole
  between = record { unclosed = b.unclosed; later = b.later; skipped_block = b.skipped_block }

  calls_taken : (cs : List Call) × (length cs ≡ length ahead)
      × ((more : List ℕ) → calls_of (turns (r.bytes ++ more)) ≡ cs ++ calls_of (turns more))
  calls_taken = calls_ahead ahead r.bytes r.taken

  -- the calls that were given and have no outcome, and then those that were taken ahead
  abbrev those : List Call
  those = drop (length outcomes) (calls_of r.reached.given) ++ calls_taken.0

  -- they wait, whatever bytes may follow
  waits_more : (more : List ℕ)
      → drop (length outcomes) (calls_of (turns (read ++ more))) ≡ those ++ calls_of (turns (held.unread ++ more))
  waits_more more =
      let is = Acts (run_of read r.reached.given outcomes written whole) (Feed more) r.reached.is_run tt in
      let n = count read r.reached.given outcomes written whole r.reached.is_run in
      let come : calls_of (to_come (fed whole more)) ≡ calls_taken.0 ++ calls_of (turns (held.unread ++ more)) =
      ap (λ h. calls_of (to_come h)) (fed_between whole more between)
      ∙ (ap calls_of (come_between (record whole { unread = whole.unread ++ more })
      (record { unclosed = between.unclosed; later = between.later; skipped_block = between.skipped_block }))
      ∙ (ap (λ b. calls_of (turns b)) (append_assoc r.bytes held.unread more)
      ∙ calls_taken.2 (held.unread ++ more))) in
      ap (λ cs. drop (length outcomes) cs)
      (all_calls (read ++ more) r.reached.given outcomes written (fed whole more) is)
      ∙ (drop-append-le (length outcomes) (calls_of r.reached.given) (calls_of (to_come (fed whole more)))
      (omega (arith, n))
      ∙ (ap (λ cs. drop (length outcomes) (calls_of r.reached.given) ++ cs) come
      ∙ sym (append_assoc (drop (length outcomes) (calls_of r.reached.given)) calls_taken.0
      (calls_of (turns (held.unread ++ more))))))

  waits_all : drop (length outcomes) (calls_of (turns read)) ≡ those ++ calls_of (turns held.unread)
  waits_all =
      ap (λ bytes. drop (length outcomes) (calls_of (turns bytes))) (sym (append-nil read))
      ∙ (waits_more [] ∙ ap (λ bytes. those ++ calls_of (turns bytes)) (append-nil held.unread))

  -- as many as are open
  waits_count : length those ≡ calls_open ahead held.asked
  waits_count =
      let a = length-append (drop (length outcomes) (calls_of r.reached.given)) calls_taken.0 in
      let b = rest_count read r.reached.given outcomes written whole r.reached.is_run in
      let c = calls_taken.1 in
      let d = open_more ahead held.asked in
      omega (arith, a, b, c, d)

  waits_then : (more : List ℕ)
      → take (calls_open ahead held.asked) (drop (length outcomes) (calls_of (turns (read ++ more)))) ≡ those
  waits_then more =
      ap (λ cs. take (calls_open ahead held.asked) cs) (waits_more more)
      ∙ take_at those (calls_of (turns (held.unread ++ more))) (calls_open ahead held.asked) waits_count

  waits_now : take (calls_open ahead held.asked) (drop (length outcomes) (calls_of (turns read))) ≡ those
  waits_now =
      ap (λ cs. take (calls_open ahead held.asked) cs) waits_all
      ∙ take_at those (calls_of (turns held.unread)) (calls_open ahead held.asked) waits_count

-- ---- some were

module _ (read : List ℕ) (outcomes : List Outcome) (written : List ℕ) (held : Held) (silent : Bool) (later : List Bool)
    (r : IsReachedAhead read outcomes written held (silent ∷ later)) where
  -- one call was given and has no outcome
  one : open_calls held.asked ≡ 1
  one = ap open_calls (some_refused held.asked r.may_be.0).1

  -- so one waits
  not_idle : take (calls_open (silent ∷ later) held.asked) (drop (length outcomes) (calls_of (turns read))) ≡ [] → ⊥
  not_idle none =
      let a = ap length
      (sym (waits_now read outcomes written held (silent ∷ later) r r.may_be.1) ∙ none) in
      let b = waits_count read outcomes written held (silent ∷ later) r r.may_be.1 in
      absurd (omega (arith, a, b))

  begun_some : (ended failed : Bool) (more : List ℕ)
      → IsBegun (reached read outcomes written held (silent ∷ later) ended failed) (read ++ more)
  begun_some ended failed more =
      let b = begun read outcomes written (record held { unread = r.bytes ++ held.unread }) ended failed r.reached
      more in
      let now = waits_now read outcomes written held (silent ∷ later) r r.may_be.1 in
      let long : length (take (calls_open (silent ∷ later) held.asked)
      (drop (length outcomes) (calls_of (turns read)))) ≡ calls_open (silent ∷ later) held.asked =
      ap length now ∙ waits_count read outcomes written held (silent ∷ later) r r.may_be.1 in
      record {
        rest = b.rest;
        answered = b.answered;
        calls = b.calls;
        waiting = now ∙ (sym (waits_then read outcomes written held (silent ∷ later) r r.may_be.1 more)
            ∙ ap (λ n. take n (drop (length outcomes) (calls_of (turns (read ++ more))))) (sym long));
        output = b.output;
      }

  -- the open call came to something: the first that was taken ahead is open
  resumed_some : (more : List ℕ) (then : List Outcome)
      → IsRun (run_of read r.reached.given then written
      (record held { unread = r.bytes ++ held.unread; asked = None; out = held.out ++ more }))
      → length then ≡ suc (length outcomes)
      → IsReachedAhead read then written (record held { asked = Some (form_of silent); out = held.out ++ more }) later
  resumed_some more then is longer =
      let idle : Held = record held { unread = r.bytes ++ held.unread; asked = None; out = held.out ++ more } in
      let b = r.may_be.1 in
      let g = next_ahead silent later r.bytes held.unread idle r.taken
      (record { unclosed = b.unclosed; later = b.later; skipped_block = b.skipped_block }) refl in
      let after : List Turn = r.reached.given ++ Calls g.call (form_of silent) ∷ [] in
      let left : Held = record held
      { unread = g.bytes ++ held.unread; asked = Some (form_of silent); out = held.out ++ more } in
      let run : IsRun (run_of read after then written left) =
      subst (λ gives. IsRun (run_of read (r.reached.given ++ turn_given gives.0) then written gives.1)) g.next
      (Acts (run_of read r.reached.given then written idle) Next is refl) in
      let n = count read r.reached.given outcomes written (record held { unread = r.bytes ++ held.unread })
      r.reached.is_run in
      let o = one in
      let waits : take 1 (drop (length then) (calls_of (turns read))) ≡ g.call ∷ [] =
      waiting_are read after then written left run
      ∙ (ap (λ cs. drop (length then) cs) (calls_of_more r.reached.given (Calls g.call (form_of silent) ∷ []))
      ∙ drop_at (calls_of r.reached.given) (g.call ∷ []) (length then) (omega (arith, n, o, longer))) in
      record {
        bytes = g.bytes;
        reached = record {
          given = after;
          is_run = run;
          asked = subst (λ cs. IsAsked cs (Some (form_of silent))) (sym waits)
              (update_shows silent ∙ ap not (sym g.update));
        };
        taken = g.ahead;
        may_be = may_be_later later;
      }
    where
      may_be_later : (others : List Bool)
          → MayBeAhead others (record held { asked = Some (form_of silent); out = held.out ++ more })
      may_be_later [] = tt
      may_be_later (first ∷ others) =
          let b = r.may_be.1 in
          (update_shows silent, record { unclosed = b.unclosed; later = b.later; skipped_block = b.skipped_block })

  -- and so it shows
  seen_some : (outcome : Outcome) (more : List ℕ) (ended failed : Bool)
      → HasOutcome outcome (reached read outcomes written held (silent ∷ later) ended failed)
      (reached read (outcomes ++ outcome ∷ []) written
      (record held { asked = Some (form_of silent); out = held.out ++ more }) later ended failed)
  seen_some outcome more ended failed = by (take (calls_open (silent ∷ later) held.asked)
      (drop (length outcomes) (calls_of (turns read)))) refl
    where
      longer : length (outcomes ++ outcome ∷ []) ≡ suc (length outcomes)
      longer = let a = length-append outcomes (outcome ∷ []) in omega (arith, a)

      by : (ws : List Call)
          → take (calls_open (silent ∷ later) held.asked) (drop (length outcomes) (calls_of (turns read))) ≡ ws
          → HasOutcome outcome (reached read outcomes written held (silent ∷ later) ended failed)
          (reached read (outcomes ++ outcome ∷ []) written
          (record held { asked = Some (form_of silent); out = held.out ++ more }) later ended failed)
      by [] none = absurd (not_idle none)
      by (call ∷ rest) e =
          let s = first_waits (calls_of (turns read)) (length outcomes) (calls_open later held.asked) call rest e in
          let first : take (length (outcomes ++ outcome ∷ [])) (calls_of (turns read))
          ≡ take (length outcomes) (calls_of (turns read)) ++ call ∷ [] =
          ap (λ n. take n (calls_of (turns read))) longer ∙ s.1 in
          let others : take (calls_open later (Some (form_of silent)))
          (drop (length (outcomes ++ outcome ∷ [])) (calls_of (turns read))) ≡ rest =
          ap (λ n. take n (drop (length (outcomes ++ outcome ∷ [])) (calls_of (turns read))))
          (same_open later (Some (form_of silent)) held.asked (sym one))
          ∙ (ap (λ n. take (calls_open later held.asked) (drop n (calls_of (turns read)))) longer ∙ s.0) in (
            call,
            rest,
            more,
            e,
            λ i. record {
              read = read;
              calls = first i;
              outcomes = outcomes ++ outcome ∷ [];
              waiting = others i;
              due = held.out ++ more;
              written = written;
              closed = held.closed;
              ended = ended;
              failed = failed;
            },
          )

-- ---- whether or not some were

-- if no call waits, none was taken ahead
pub none_ahead : (read : List ℕ) (outcomes : List Outcome) (written : List ℕ) (held : Held) (ahead : List Bool)
    → IsReachedAhead read outcomes written held ahead
    → take (calls_open ahead held.asked) (drop (length outcomes) (calls_of (turns read))) ≡ []
    → ahead ≡ []
none_ahead read outcomes written held [] r none = refl
none_ahead read outcomes written held (silent ∷ later) r none =
    absurd (not_idle read outcomes written held silent later r none)

-- whatever bytes may follow
pub begun_ahead : (read : List ℕ) (outcomes : List Outcome) (written : List ℕ) (held : Held) (ahead : List Bool)
    (ended failed : Bool)
    → IsReachedAhead read outcomes written held ahead → (more : List ℕ)
    → IsBegun (reached read outcomes written held ahead ended failed) (read ++ more)
begun_ahead read outcomes written held [] ended failed r more =
    begun read outcomes written held ended failed (plain read outcomes written held r) more
begun_ahead read outcomes written held (silent ∷ later) ended failed r more =
    begun_some read outcomes written held silent later r ended failed more

-- a reply that the call which waits longest may have is one that the open call can have
pub can_answer_ahead : (calls : List Call) (ahead : List Bool) (held : Held) (reply : Reply)
    → MayBeAhead ahead held
    → IsAsked (take (open_calls held.asked) calls) held.asked
    → MayHave (take (calls_open ahead held.asked) calls) reply
    → CanAnswer held.asked reply
can_answer_ahead calls [] held reply may_be is may =
    can_answer (take (open_calls held.asked) calls) held.asked reply is may
can_answer_ahead [] (silent ∷ later) held reply may_be is may = absurd may
can_answer_ahead (call ∷ calls) (silent ∷ later) held reply may_be is may =
    let form = some_refused held.asked may_be.0 in
    can_answer (call ∷ []) held.asked reply
    (subst (λ n. IsAsked (take n (call ∷ calls)) held.asked) (ap open_calls form.1) is) may

-- if the call that waits longest may be refused, the open call can be
pub can_refuse_ahead : (calls : List Call) (ahead : List Bool) (held : Held)
    → MayBeAhead ahead held
    → IsAsked (take (open_calls held.asked) calls) held.asked
    → MayRefuse (take (calls_open ahead held.asked) calls)
    → CanRefuse held.asked
can_refuse_ahead calls [] held may_be is may = can_refuse (take (open_calls held.asked) calls) held.asked is may
can_refuse_ahead calls (silent ∷ later) held may_be is may = may_be.0

-- an open call that shows no item is an update
waits_for_update : (calls : List Call) (ahead : List Bool) (asked : Option Form)
    → IsAsked (take (open_calls asked) calls) asked
    → CanRefuse asked
    → WaitsForUpdate (take (calls_open ahead asked) calls)
waits_for_update calls ahead None is can = absurd can
waits_for_update [] ahead (Some form) is can = absurd cc
waits_for_update (call ∷ later) [] (Some form) is can = not-false (is_update call.op) (sym is ∙ can)
waits_for_update (call ∷ later) (silent ∷ others) (Some form) is can = not-false (is_update call.op) (sym is ∙ can)

-- the open call was answered, and the oldest that was taken ahead is open
pub answered_ahead : (read : List ℕ) (outcomes : List Outcome) (reply : Reply) (written : List ℕ) (held : Held)
    (ahead : List Bool)
    → IsReachedAhead read outcomes written held ahead → CanAnswer held.asked reply
    → IsReachedAhead read (outcomes ++ Replied reply ∷ []) written
    (resumed (answered_by held.asked held reply) ahead).0 (resumed (answered_by held.asked held reply) ahead).1
answered_ahead read outcomes reply written held [] r can =
    as_ahead read (outcomes ++ Replied reply ∷ []) written (answered_by held.asked held reply)
    (reached_answered read outcomes reply written held (answered_by held.asked held reply)
    (plain read outcomes written held r) can refl)
answered_ahead read outcomes reply written held (silent ∷ later) r can =
    let form = some_form held.asked reply can in
    let v : Held = record held { unread = r.bytes ++ held.unread } in
    subst (λ h. IsReachedAhead read (outcomes ++ Replied reply ∷ []) written
    (resumed h (silent ∷ later)).0 (resumed h (silent ∷ later)).1)
    (sym (ap (λ a. answered_by a held reply) form.1))
    (resumed_some read outcomes written held silent later r (text form.0 reply) (outcomes ++ Replied reply ∷ [])
    (subst (λ h. IsRun (run_of read r.reached.given (outcomes ++ Replied reply ∷ []) written h))
    (ap (λ a. answered_by a v reply) form.1)
    (Acts (run_of read r.reached.given outcomes written v) (Answer reply) r.reached.is_run can))
    (let a = length-append outcomes (Replied reply ∷ []) in omega (arith, a)))

pub seen_answered_ahead : (read : List ℕ) (outcomes : List Outcome) (reply : Reply) (written : List ℕ) (held : Held)
    (ahead : List Bool) (ended failed : Bool)
    → IsReachedAhead read outcomes written held ahead → CanAnswer held.asked reply
    → HasOutcome (Replied reply) (reached read outcomes written held ahead ended failed)
    (reached read (outcomes ++ Replied reply ∷ []) written (resumed (answered_by held.asked held reply) ahead).0
    (resumed (answered_by held.asked held reply) ahead).1 ended failed)
seen_answered_ahead read outcomes reply written held [] ended failed r can =
    seen_answered read outcomes reply written held (answered_by held.asked held reply) ended failed
    (plain read outcomes written held r) can refl
seen_answered_ahead read outcomes reply written held (silent ∷ later) ended failed r can =
    let form = some_form held.asked reply can in
    subst (λ h. HasOutcome (Replied reply) (reached read outcomes written held (silent ∷ later) ended failed)
    (reached read (outcomes ++ Replied reply ∷ []) written (resumed h (silent ∷ later)).0
    (resumed h (silent ∷ later)).1 ended failed))
    (sym (ap (λ a. answered_by a held reply) form.1))
    (seen_some read outcomes written held silent later r (Replied reply) (text form.0 reply) ended failed)

-- the same of a refusal
pub refused_ahead : (read : List ℕ) (outcomes : List Outcome) (written : List ℕ) (held : Held) (ahead : List Bool)
    → IsReachedAhead read outcomes written held ahead → CanRefuse held.asked
    → IsReachedAhead read (outcomes ++ Refused ∷ []) written
    (resumed (refused_by held.asked held) ahead).0 (resumed (refused_by held.asked held) ahead).1
refused_ahead read outcomes written held [] r can =
    as_ahead read (outcomes ++ Refused ∷ []) written (refused_by held.asked held)
    (reached_refused read outcomes written held (refused_by held.asked held)
    (plain read outcomes written held r) can refl)
refused_ahead read outcomes written held (silent ∷ later) r can =
    let form = some_refused held.asked can in
    let v : Held = record held { unread = r.bytes ++ held.unread } in
    subst (λ h. IsReachedAhead read (outcomes ++ Refused ∷ []) written
    (resumed h (silent ∷ later)).0 (resumed h (silent ∷ later)).1)
    (sym (ap (λ a. refused_by a held) form.1))
    (resumed_some read outcomes written held silent later r (refusal_text form.0) (outcomes ++ Refused ∷ [])
    (subst (λ h. IsRun (run_of read r.reached.given (outcomes ++ Refused ∷ []) written h))
    (ap (λ a. refused_by a v) form.1)
    (Acts (run_of read r.reached.given outcomes written v) Refuse r.reached.is_run can))
    (let a = length-append outcomes (Refused ∷ []) in omega (arith, a)))

pub seen_refused_ahead : (read : List ℕ) (outcomes : List Outcome) (written : List ℕ) (held : Held)
    (ahead : List Bool) (ended failed : Bool)
    → IsReachedAhead read outcomes written held ahead → CanRefuse held.asked
    → HasOutcome Refused (reached read outcomes written held ahead ended failed)
    (reached read (outcomes ++ Refused ∷ []) written (resumed (refused_by held.asked held) ahead).0
    (resumed (refused_by held.asked held) ahead).1 ended failed)
seen_refused_ahead read outcomes written held [] ended failed r can =
    seen_refused read outcomes written held (refused_by held.asked held) ended failed
    (plain read outcomes written held r) can refl
seen_refused_ahead read outcomes written held (silent ∷ later) ended failed r can =
    let form = some_refused held.asked can in
    subst (λ h. HasOutcome Refused (reached read outcomes written held (silent ∷ later) ended failed)
    (reached read (outcomes ++ Refused ∷ []) written (resumed h (silent ∷ later)).0
    (resumed h (silent ∷ later)).1 ended failed))
    (sym (ap (λ a. refused_by a held) form.1))
    (seen_some read outcomes written held silent later r Refused (refusal_text form.0) ended failed)

-- output was taken away
pub written_ahead : (read : List ℕ) (outcomes : List Outcome) (written : List ℕ) (held : Held) (ahead : List Bool)
    (n : ℕ)
    → IsReachedAhead read outcomes written held ahead → n ≤ length held.out
    → IsReachedAhead read outcomes (written ++ take n held.out) (taken_from held n) ahead
written_ahead read outcomes written held ahead n r within =
    record {
      bytes = r.bytes;
      reached = reached_written read outcomes written (record held { unread = r.bytes ++ held.unread }) n r.reached
          within;
      taken = r.taken;
      may_be = may_be ahead r.may_be;
    }
  where
    may_be : (ahead : List Bool) → MayBeAhead ahead held → MayBeAhead ahead (taken_from held n)
    may_be [] is = tt
    may_be (first ∷ others) is =
        (is.0, record { unclosed = is.1.unclosed; later = is.1.later; skipped_block = is.1.skipped_block })

-- a piece was fed
pub fed_ahead : (read piece : List ℕ) (outcomes : List Outcome) (written : List ℕ) (held left : Held)
    (ahead : List Bool)
    → IsReachedAhead read outcomes written held ahead
    → take (calls_open ahead held.asked) (drop (length outcomes) (calls_of (turns read))) ≡ []
    → held.closed ≡ false → left ≡ fed held piece
    → IsReachedAhead (read ++ piece) outcomes written left ahead
fed_ahead read piece outcomes written held left [] r none unclosed e =
    as_ahead (read ++ piece) outcomes written left
    (reached_fed read piece outcomes written held left (plain read outcomes written held r) none unclosed e)
fed_ahead read piece outcomes written held left (silent ∷ later) r none unclosed e =
    absurd (not_idle read outcomes written held silent later r none)

pub seen_fed_ahead : (read piece : List ℕ) (outcomes : List Outcome) (written : List ℕ) (held left : Held)
    (ahead : List Bool) (ended failed : Bool)
    → IsReachedAhead read outcomes written held ahead
    → take (calls_open ahead held.asked) (drop (length outcomes) (calls_of (turns read))) ≡ []
    → held.closed ≡ false → left ≡ fed held piece
    → reached (read ++ piece) outcomes written left ahead ended failed
    ≡ record (reached read outcomes written held ahead ended failed) { read = read ++ piece }
seen_fed_ahead read piece outcomes written held left [] ended failed r none unclosed e =
    seen_fed read piece outcomes written held left ended failed (plain read outcomes written held r) none unclosed e
seen_fed_ahead read piece outcomes written held left (silent ∷ later) ended failed r none unclosed e =
    absurd (not_idle read outcomes written held silent later r none)

-- What a step comes to.
pub record SteppedAhead (step : Step) (read : List ℕ) (outcomes : List Outcome) (written : List ℕ) (held left : Held)
    (ahead : List Bool) (ended failed : Bool) : Type 0 where
  pub is : IsReachedAhead read outcomes written left ahead
  pub looked : IsLooked (reached read outcomes written held ahead ended failed)
      (reached read outcomes written left ahead ended failed)
  pub stepped : HasStepped step (reached read outcomes written held ahead ended failed)
      (reached read outcomes written left ahead ended failed)

-- a step of the session
pub stepped_ahead : (step : Step) (read : List ℕ) (outcomes : List Outcome) (written : List ℕ) (held left : Held)
    (ahead : List Bool) (ended failed : Bool)
    → IsReachedAhead read outcomes written held ahead
    → take (calls_open ahead held.asked) (drop (length outcomes) (calls_of (turns read))) ≡ []
    → left ≡ (next_of held).1 → Tells step (next_of held) → IsOpen step left.asked
    → SteppedAhead step read outcomes written held left ahead ended failed
stepped_ahead step read outcomes written held left [] ended failed r none e tells opens =
    let s = stepped_by step read outcomes written held left ended failed
    (plain read outcomes written held r) none e tells
    opens in
    record { is = as_ahead read outcomes written left s.is; looked = s.looked; stepped = s.stepped }
stepped_ahead step read outcomes written held left (silent ∷ later) ended failed r none e tells opens =
    absurd (not_idle read outcomes written held silent later r none)

-- ---- one more is taken ahead

module _ (read : List ℕ) (outcomes : List Outcome) (written : List ℕ) (held : Held) (ahead : List Bool)
    (update : Update) (left : Held)
    (r : IsReachedAhead read outcomes written held ahead) (can : CanRefuse held.asked)
    (t : IsTakenAhead update held left) where
  bytes_are : (r.bytes ++ take t.n held.unread) ++ drop t.n held.unread ≡ r.bytes ++ held.unread
  bytes_are =
      append_assoc r.bytes (take t.n held.unread) (drop t.n held.unread)
      ∙ ap (λ u. r.bytes ++ u) (take-append-drop t.n held.unread)

  as_left : MayBeAhead (ahead ++ update.silent ∷ []) (record held { unread = drop t.n held.unread })
  as_left = by (ahead ++ update.silent ∷ [])
    where
      by : (all : List Bool) → MayBeAhead all (record held { unread = drop t.n held.unread })
      by [] = tt
      by (first ∷ others) =
          let b = t.between in
          (can, record { unclosed = b.unclosed; later = b.later; skipped_block = b.skipped_block })

  pub taken_ahead : IsReachedAhead read outcomes written left (ahead ++ update.silent ∷ [])
  taken_ahead =
      subst (λ h. IsReachedAhead read outcomes written h (ahead ++ update.silent ∷ [])) (sym t.left_is)
      (record {
        bytes = r.bytes ++ take t.n held.unread;
        reached = subst (λ b. IsReached read outcomes written (record held { unread = b })) (sym bytes_are) r.reached;
        taken = one_more_ahead ahead r.bytes held.unread t.request update.call update.silent t.n r.taken t.front t.is
            t.update_is;
        may_be = as_left;
      })

  -- and so it shows
  pub seen_taken : (ended failed : Bool)
      → reached read outcomes written left (ahead ++ update.silent ∷ []) ended failed
      ≡ record (reached read outcomes written held ahead ended failed) {
        waiting = take (calls_open ahead held.asked) (drop (length outcomes) (calls_of (turns read)))
            ++ update.call ∷ [];
      }
  seen_taken ended failed =
      let those_wait = those read outcomes written held ahead r t.between in
      let now = waits_now read outcomes written held ahead r t.between in
      let long = waits_count read outcomes written held ahead r t.between in
      let next : calls_of (turns held.unread) ≡ update.call ∷ calls_of (turns (drop t.n held.unread)) =
      first_call held.unread t.request update.call update.silent t.n t.front t.is in
      let all : drop (length outcomes) (calls_of (turns read))
      ≡ (those_wait ++ update.call ∷ []) ++ calls_of (turns (drop t.n held.unread)) =
      waits_all read outcomes written held ahead r t.between
      ∙ (ap (λ cs. those_wait ++ cs) next
      ∙ sym (append_assoc those_wait (update.call ∷ []) (calls_of (turns (drop t.n held.unread))))) in
      let a = length-append those_wait (update.call ∷ []) in
      let b = open_more (ahead ++ update.silent ∷ []) held.asked in
      let c = open_more ahead held.asked in
      let d = length-append ahead (update.silent ∷ []) in
      let waits : take (calls_open (ahead ++ update.silent ∷ []) held.asked)
      (drop (length outcomes) (calls_of (turns read)))
      ≡ take (calls_open ahead held.asked) (drop (length outcomes) (calls_of (turns read))) ++ update.call ∷ [] =
      ap (λ cs. take (calls_open (ahead ++ update.silent ∷ []) held.asked) cs) all
      ∙ (take_at (those_wait ++ update.call ∷ []) (calls_of (turns (drop t.n held.unread)))
      (calls_open (ahead ++ update.silent ∷ []) held.asked) (omega (arith, a, b, c, d, long))
      ∙ ap (λ cs. cs ++ update.call ∷ []) (sym now)) in
      ap (λ h. reached read outcomes written h (ahead ++ update.silent ∷ []) ended failed) t.left_is
      ∙ (λ i. record {
        read = read;
        calls = take (length outcomes) (calls_of (turns read));
        outcomes = outcomes;
        waiting = waits i;
        due = held.out;
        written = written;
        closed = held.closed;
        ended = ended;
        failed = failed;
      })

-- one more was taken ahead, or none
pub went_ahead : (read : List ℕ) (outcomes : List Outcome) (written : List ℕ) (held left : Held)
    (ahead longer : List Bool) (found : Option Call)
    → IsReachedAhead read outcomes written held ahead → CanRefuse held.asked
    → MatchOption found ((left ≡ held) × (longer ≡ ahead)) (λ call. WentAhead call held left ahead longer)
    → IsReachedAhead read outcomes written left longer
went_ahead read outcomes written held left ahead longer None r can same =
    subst (λ a. IsReachedAhead read outcomes written left a) (sym same.1)
    (subst (λ h. IsReachedAhead read outcomes written h ahead) (sym same.0) r)
went_ahead read outcomes written held left ahead longer (Some call) r can went =
    subst (IsReachedAhead read outcomes written left) (sym went.longer_is)
    (taken_ahead read outcomes written held ahead went.update left r can went.taken)

pub seen_ahead : (read : List ℕ) (outcomes : List Outcome) (written : List ℕ) (held left : Held)
    (ahead longer : List Bool) (ended failed : Bool) (found : Option Call)
    → IsReachedAhead read outcomes written held ahead → CanRefuse held.asked
    → MatchOption found ((left ≡ held) × (longer ≡ ahead)) (λ call. WentAhead call held left ahead longer)
    → MatchOption found
    (reached read outcomes written left longer ended failed ≡ reached read outcomes written held ahead ended failed)
    (λ call. IsAskedAhead call (reached read outcomes written held ahead ended failed)
    (reached read outcomes written left longer ended failed))
seen_ahead read outcomes written held left ahead longer ended failed None r can same =
    ap (λ h. reached read outcomes written h longer ended failed) same.0
    ∙ ap (λ a. reached read outcomes written held a ended failed) same.1
seen_ahead read outcomes written held left ahead longer ended failed (Some call) r can went =
    let seen = seen_taken read outcomes written held ahead went.update left r can went.taken ended failed in
    let before = reached read outcomes written held ahead ended failed in
    subst (λ x. IsAskedAhead x before (reached read outcomes written left longer ended failed)) (sym went.call_is)
    (record {
      after = waits_for_update (drop (length outcomes) (calls_of (turns read))) ahead held.asked r.reached.asked can;
      is = ap (λ a. reached read outcomes written left a ended failed) went.longer_is ∙ seen;
      fits = went.taken.fits;
      suits = went.taken.suits;
      update = went.taken.update_is;
    })
