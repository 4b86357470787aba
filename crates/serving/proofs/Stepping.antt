-- What a connection comes to by a step of its session.
use Rattle.std.proofs.Common.{◌≡◌, ℕ, ◌<◌, Bool, true, false, List, [], ◌∷◌, ◌++◌, length, take, drop}
use Rattle.std.proofs.Common.{None, Some, refl, sym, ap, subst, ◌∙◌, arith, append-nil, length-append}
use Rattle.std.proofs.lemmas.List.{take_all, drop_at}
use Rattle.table.specs.declared.operations.Call.{Call}
use Rattle.proto.specs.declared.requests.Fault.{Fault}
use Rattle.proto.specs.declared.requests.Fault.TheVariants.{Command, Format, DataChunk, TooLarge, LineTooLong, Expiry}
use Rattle.proto.specs.declared.texts.Form.{Form}
use Rattle.proto.specs.declared.sessions.Step.{Step}
use Rattle.proto.specs.declared.sessions.Step.TheVariants.{Call as Opened, Emit, Wait, Close}
use Rattle.proto.specs.Turns.{Turn, Faulty, Calls, Outcome, calls_of, fault_text}
use Rattle.proto.specs.Sessions.{Held, Given, IsOpen, Tells, Writes, next_of}
use Rattle.proto.specs.Streams.{outcome_texts, turns}
use Rattle.proto.specs.Runs.{IsRun, Acts, Next, turn_given, open_calls}
use Rattle.proto.proofs.RunLaws.{gives_all, closes_at_last}
use Rattle.proto.proofs.RunTexts.{output_is_texts}
use Rattle.proto.proofs.WriteLaws.{next_writes, calls_of_more}
use Rattle.serving.specs.Connections.{IsAnswered, IsLooked, IsAsked, IsReached, reached}
use Rattle.serving.specs.Wanted.{HasStepped}
use Rattle.serving.proofs.Reaching.{run_of, count, waiting_are, none_waits, idle_asked, idle_reached}

-- what a turn writes
writes_call : (held : Held) (given : Given) (call : Call) (form : Form) → Writes held given
    → given.0 ≡ Some (Calls call form) → (given.1.out ≡ held.out) × (given.1.asked ≡ Some form)
writes_call held (turn, left) call form w e = subst (λ t. Writes held (t, left)) e w

writes_fault : (held : Held) (given : Given) (fault : Fault) → Writes held given → given.0 ≡ Some (Faulty fault)
    → (given.1.out ≡ held.out ++ fault_text fault) × (given.1.asked ≡ held.asked)
writes_fault held (turn, left) fault w e = subst (λ t. Writes held (t, left)) e w

writes_none : (held : Held) (given : Given) → Writes held given → given.0 ≡ None
    → (given.1.out ≡ held.out) × (given.1.asked ≡ held.asked)
writes_none held (turn, left) w e = subst (λ t. Writes held (t, left)) e w

-- a fault's line has a byte
some_text : (fault : Fault) → 0 < length (fault_text fault)
some_text Command = omega arith
some_text Format = omega arith
some_text DataChunk = omega arith
some_text TooLarge = omega arith
some_text LineTooLong = omega arith
some_text Expiry = omega arith

-- What a step comes to.
pub record Stepped (step : Step) (read : List ℕ) (outcomes : List Outcome) (written : List ℕ) (held left : Held)
    (ended failed : Bool) : Type 0 where
  pub is : IsReached read outcomes written left
  pub looked : IsLooked (reached read outcomes written held [] ended failed)
      (reached read outcomes written left [] ended failed)
  pub stepped : HasStepped step (reached read outcomes written held [] ended failed)
      (reached read outcomes written left [] ended failed)

module _ (read : List ℕ) (outcomes : List Outcome) (written : List ℕ) (held : Held) (ended failed : Bool)
    (r : IsReached read outcomes written held)
    (none : take (open_calls held.asked) (drop (length outcomes) (calls_of (turns read))) ≡ []) where
  abbrev left : Held
  left = (next_of held).1

  abbrev after : List Turn
  after = r.given ++ turn_given (next_of held).0

  idle : held.asked ≡ None
  idle = idle_asked read outcomes written held r none

  is_run : IsRun (run_of read after outcomes written left)
  is_run = Acts (run_of read r.given outcomes written held) Next r.is_run idle

  all_given : length (calls_of r.given) ≡ length outcomes
  all_given =
      let n = count read r.given outcomes written held r.is_run in
      let zero_open : open_calls held.asked ≡ 0 = ap open_calls idle in
      omega (arith, n, zero_open)

  -- what is due
  looks : (lines : List ℕ) → left.out ≡ held.out ++ lines
      → IsLooked (reached read outcomes written held [] ended failed)
      (reached read outcomes written left [] ended failed)
  looks lines out =
      record {
        lines = lines;
        read = refl;
        calls = refl;
        outcomes = refl;
        due = out;
        written = refl;
        ended = refl;
      }

  -- no turn is left
  answered : (shut : Bool) → (next_of held).0 ≡ None → left.closed ≡ shut
      → IsAnswered shut (reached read outcomes written left [] ended failed)
  answered shut is_none closed =
      let run = run_of read r.given outcomes written held in
      let all : r.given ≡ turns read = gives_all run r.is_run is_none in
      let wrote = writes_none held (next_of held) (next_writes held) is_none in
      let as_many : length (calls_of r.given) ≡ length (calls_of (turns read)) = ap (λ ts. length (calls_of ts)) all in
      let known = all_given in
      record {
        waiting = none_waits left.asked (drop (length outcomes) (calls_of (turns read))) (wrote.1 ∙ idle);
        calls = take_all (length outcomes) (calls_of (turns read)) (omega (arith, known, as_many));
        output = ap (λ bytes. written ++ bytes) wrote.0
            ∙ (output_is_texts run r.is_run ∙ ap (λ ts. outcome_texts ts outcomes) all);
        closed = closed;
        ends = sym (closes_at_last run r.is_run is_none) ∙ closed;
      }

  by_step : (step : Step) → Tells step (next_of held) → IsOpen step left.asked
      → Stepped step read outcomes written held left ended failed
  by_step (Opened target op) tells opens =
      let call : Call = record { target = target; op = op } in
      let wrote = writes_call held (next_of held) call tells.0 (next_writes held) tells.1 in
      let calls : calls_of after ≡ calls_of r.given ++ call ∷ [] =
      ap (λ t. calls_of (r.given ++ turn_given t)) tells.1 ∙ calls_of_more r.given (Calls call tells.0 ∷ []) in
      let waits : take (open_calls left.asked) (drop (length outcomes) (calls_of (turns read))) ≡ call ∷ [] =
      waiting_are read after outcomes written left is_run
      ∙ (ap (λ cs. drop (length outcomes) cs) calls
      ∙ drop_at (calls_of r.given) (call ∷ []) (length outcomes) all_given) in
      record {
        is = record {
          given = after;
          is_run = is_run;
          asked = subst (λ cs. IsAsked cs left.asked) (sym waits) opens.form;
        };
        looked = looks [] (wrote.0 ∙ sym (append-nil held.out));
        stepped = (record { waiting = waits; fits = opens.fits; suits = opens.aimed }, wrote.0);
      }
  by_step Emit tells opens =
      let wrote = writes_fault held (next_of held) tells.0 (next_writes held) tells.1 in
      let some = some_text tells.0 in
      let long = ap length wrote.0 in
      let both = length-append held.out (fault_text tells.0) in
      record {
        is = idle_reached read after outcomes written left is_run (wrote.1 ∙ idle);
        looked = looks (fault_text tells.0) wrote.0;
        stepped = (
          none_waits left.asked (drop (length outcomes) (calls_of (turns read))) (wrote.1 ∙ idle),
          omega (arith, long, both, some),
        );
      }
  by_step Wait tells opens =
      let wrote = writes_none held (next_of held) (next_writes held) tells.0 in
      record {
        is = idle_reached read after outcomes written left is_run opens;
        looked = looks [] (wrote.0 ∙ sym (append-nil held.out));
        stepped = answered false tells.0 tells.1;
      }
  by_step Close tells opens =
      let wrote = writes_none held (next_of held) (next_writes held) tells.0 in
      record {
        is = idle_reached read after outcomes written left is_run opens;
        looked = looks [] (wrote.0 ∙ sym (append-nil held.out));
        stepped = answered true tells.0 tells.1;
      }

-- a step of the session
pub stepped_by : (step : Step) (read : List ℕ) (outcomes : List Outcome) (written : List ℕ) (held left : Held)
    (ended failed : Bool)
    → IsReached read outcomes written held
    → take (open_calls held.asked) (drop (length outcomes) (calls_of (turns read))) ≡ []
    → left ≡ (next_of held).1 → Tells step (next_of held) → IsOpen step left.asked
    → Stepped step read outcomes written held left ended failed
stepped_by step read outcomes written held after_step ended failed r none e tells opens =
    subst (λ h. Stepped step read outcomes written held h ended failed) (sym e)
    (by_step read outcomes written held ended failed r none step tells (subst (λ h. IsOpen step h.asked) e opens))
