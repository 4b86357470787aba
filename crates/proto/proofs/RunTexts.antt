-- Along a run the output is the texts of the turns that were given, each call's with what it came to.
use Rattle.std.proofs.Common.{◌≡◌, ℕ, ◌+◌, Bool, true, false, List, [], ◌∷◌, ◌++◌, length, take, drop, Option, None}
use Rattle.std.proofs.Common.{Some, refl, sym, ap, subst, ◌∙◌, arith, append_assoc, append-nil, length-append}
use Rattle.std.proofs.Common.{take-append-drop}
use Rattle.table.specs.declared.operations.Call.{Call}
use Rattle.table.specs.declared.operations.Reply.{Reply}
use Rattle.proto.specs.declared.texts.Form.{Form}
use Rattle.proto.specs.Turns.{Turn, Faulty, Calls, Outcome, Replied, Refused, calls_of, fault_text, outcome_text}
use Rattle.proto.specs.Sessions.{Held, Given, Writes, fed, next_of, answered_by, refused_by, CanAnswer, CanRefuse}
use Rattle.proto.specs.Streams.{outcome_texts}
use Rattle.proto.specs.Runs.{SessionCall, Feed, Next, Answer, Refuse, Take, Run, IsRun, Opens, Acts, acted, turn_given}
use Rattle.proto.specs.Runs.{IsAllowed, open_calls}
use Rattle.proto.proofs.WriteLaws.{next_writes, calls_of_more, texts_fault, texts_open, texts_call}

-- What stands written for these turns and what their calls came to, by the open call: it is the last turn, and of it
-- that isn't known.
abbrev IsWritten : Option Form → List Turn → List Outcome → List ℕ → Type 0
IsWritten None given outcomes bytes =
    (length outcomes ≡ length (calls_of given)) × (bytes ≡ outcome_texts given outcomes)
IsWritten (Some form) given outcomes bytes =
    (before : List Turn) × (call : Call) × (given ≡ before ++ Calls call form ∷ [])
    × (length outcomes ≡ length (calls_of before)) × (bytes ≡ outcome_texts before outcomes)

-- if no call is open, the next turn writes its text
next_written : (h : Held) (given : Given) (ts : List Turn) (os : List Outcome) (taken : List ℕ)
    → h.asked ≡ None
    → Writes h given
    → IsWritten None ts os (taken ++ h.out)
    → IsWritten given.1.asked (ts ++ turn_given given.0) os (taken ++ given.1.out)
next_written h (None, left) ts os taken idle w is = rw (w.1, idle, w.0, append-nil ts) is
next_written h (Some (Faulty fault), left) ts os taken idle w is =
    let count : length os ≡ length (calls_of (ts ++ Faulty fault ∷ [])) =
    is.0 ∙ sym (ap length (calls_of_more ts (Faulty fault ∷ []) ∙ append-nil (calls_of ts))) in
    rw (w.1, idle, w.0) (
      count,
      sym (append_assoc taken h.out (fault_text fault))
          ∙ (ap (λ bytes. bytes ++ fault_text fault) is.1 ∙ sym (texts_fault fault ts os is.0)),
    )
next_written h (Some (Calls call form), left) ts os taken idle w is = rw (w.1, w.0) (ts, call, refl, is.0, is.1)

-- the open call came to this, and its text is written
outcome_written : (form : Form) (outcome : Outcome) (ts : List Turn) (os : List Outcome) (taken out : List ℕ)
    → IsWritten (Some form) ts os (taken ++ out)
    → IsWritten None ts (os ++ outcome ∷ []) (taken ++ (out ++ outcome_text form outcome))
outcome_written form outcome ts os taken out is =
    let before = is.0 in
    let call = is.1 in
    let count : length (os ++ outcome ∷ []) ≡ length (calls_of (before ++ Calls call form ∷ [])) =
    length-append os (outcome ∷ [])
    ∙ (ap (λ n. n + 1) is.3
    ∙ sym (ap length (calls_of_more before (Calls call form ∷ []))
    ∙ length-append (calls_of before) (call ∷ []))) in
    rw is.2 (
      count,
      sym (append_assoc taken out (outcome_text form outcome))
          ∙ (ap (λ bytes. bytes ++ outcome_text form outcome) is.4 ∙ sym (texts_call call form outcome before os is.3)),
    )

-- an answer writes its text
answer_written : (h : Held) (asked : Option Form) (reply : Reply) (ts : List Turn) (os : List Outcome) (taken : List ℕ)
    → CanAnswer asked reply
    → IsWritten asked ts os (taken ++ h.out)
    → IsWritten (answered_by asked h reply).asked ts (os ++ Replied reply ∷ [])
    (taken ++ (answered_by asked h reply).out)
answer_written h None reply ts os taken can is = absurd can
answer_written h (Some form) reply ts os taken can is = outcome_written form (Replied reply) ts os taken h.out is

-- a refusal writes its own
refusal_written : (h : Held) (asked : Option Form) (ts : List Turn) (os : List Outcome) (taken : List ℕ)
    → CanRefuse asked
    → IsWritten asked ts os (taken ++ h.out)
    → IsWritten (refused_by asked h).asked ts (os ++ Refused ∷ []) (taken ++ (refused_by asked h).out)
refusal_written h None ts os taken can is = absurd can
refusal_written h (Some form) ts os taken can is = outcome_written form Refused ts os taken h.out is

-- more bytes write nothing
fed_written : (h : Held) (piece : List ℕ) (ts : List Turn) (os : List Outcome) (taken : List ℕ)
    → IsWritten h.asked ts os (taken ++ h.out) → IsWritten (fed h piece).asked ts os (taken ++ (fed h piece).out)
fed_written h piece ts os taken is = by_closed h.closed refl
  where
    by_closed : (b : Bool) → h.closed ≡ b → IsWritten (fed h piece).asked ts os (taken ++ (fed h piece).out)
    by_closed true e = rw e is
    by_closed false e = rw e is

acted_written : (run : Run) (session_call : SessionCall)
    → IsAllowed run.held session_call
    → IsWritten run.held.asked run.given run.outcomes (run.taken ++ run.held.out)
    → IsWritten (acted run session_call).held.asked (acted run session_call).given (acted run session_call).outcomes
    ((acted run session_call).taken ++ (acted run session_call).held.out)
acted_written run (Feed piece) allowed is = fed_written run.held piece run.given run.outcomes run.taken is
acted_written run Next allowed is = next_written run.held (next_of run.held) run.given run.outcomes run.taken allowed
    (next_writes run.held) (rw allowed at is)
acted_written run (Answer reply) allowed is =
    answer_written run.held run.held.asked reply run.given run.outcomes run.taken allowed is
acted_written run Refuse allowed is =
    refusal_written run.held run.held.asked run.given run.outcomes run.taken allowed is
acted_written run (Take n) allowed is =
    let same : (run.taken ++ take n run.held.out) ++ drop n run.held.out ≡ run.taken ++ run.held.out =
    append_assoc run.taken (take n run.held.out) (drop n run.held.out)
    ∙ ap (λ bytes. run.taken ++ bytes) (take-append-drop n run.held.out) in
    subst (λ bytes. IsWritten run.held.asked run.given run.outcomes bytes) (sym same) is

written : (run : Run) → IsRun run → IsWritten run.held.asked run.given run.outcomes (run.taken ++ run.held.out)
written run Opens = (refl, refl)
written run (Acts earlier session_call is allowed) = acted_written earlier session_call allowed (written earlier is)

by_asked_texts : (asked : Option Form) (ts : List Turn) (os : List Outcome) (bytes : List ℕ)
    → IsWritten asked ts os bytes
    → bytes ≡ outcome_texts ts os
by_asked_texts None ts os bytes is = is.1
by_asked_texts (Some form) ts os bytes is =
    is.4 ∙ (sym (texts_open is.1 form is.0 os is.3) ∙ ap (λ given. outcome_texts given os) (sym is.2))

by_asked_count : (asked : Option Form) (ts : List Turn) (os : List Outcome) (bytes : List ℕ)
    → IsWritten asked ts os bytes
    → length os + open_calls asked ≡ length (calls_of ts)
by_asked_count None ts os bytes is = let count = is.0 in omega arith
by_asked_count (Some form) ts os bytes is =
    ap (λ n. n + 1) is.3
    ∙ (sym (ap length (calls_of_more is.0 (Calls is.1 form ∷ [])) ∙ length-append (calls_of is.0) (is.1 ∷ []))
    ∙ ap (λ given. length (calls_of given)) (sym is.2))

-- the output, taken and left, is the texts of the turns that were given
pub output_is_texts : (run : Run) → IsRun run → run.taken ++ run.held.out ≡ outcome_texts run.given run.outcomes
output_is_texts run is =
    by_asked_texts run.held.asked run.given run.outcomes (run.taken ++ run.held.out) (written run is)

-- each call that was given has come to something, but the open one
pub calls_have_outcomes : (run : Run)
    → IsRun run
    → length run.outcomes + open_calls run.held.asked ≡ length (calls_of run.given)
calls_have_outcomes run is =
    by_asked_count run.held.asked run.given run.outcomes (run.taken ++ run.held.out) (written run is)
