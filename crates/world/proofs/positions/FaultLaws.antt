-- The turn after the faults, one fault after another.
use Rattle.std.proofs.Common.{◌≡◌, ℕ, zero, suc, ◌<◌, Bool, true, false, cond, None, Some, refl, arith, sym, ◌∙◌}
use Rattle.table.specs.declared.operations.Call.{Call}
use Rattle.table.specs.declared.operations.Op.{Op}
use Rattle.table.specs.declared.operations.Target.{Target}
use Rattle.proto.specs.declared.requests.Fault.{Fault}
use Rattle.proto.specs.declared.sessions.Step.{Step}
use Rattle.proto.specs.declared.sessions.Step.TheVariants.{Call as Calling, Emit, Wait, Close}
use Rattle.proto.specs.Turns.{Faulty, Calls, call_of}
use Rattle.proto.specs.Sessions.{Held, Given, next_of, step_of}
use Rattle.proto.specs.Streams.{most_faults}
use Rattle.world.specs.Connections.{behind, past_faults_upto, past_faults}

-- each fault leaves fewer to come at most
abbrev pub FaultsTakeBytes : Type 0
FaultsTakeBytes =
    (h : Held) (fault : Fault) → (next_of h).0 ≡ Some (Faulty fault) → most_faults (next_of h).1 < most_faults h

behind_same : (r a b : Given) → ((fault : Fault) → r.0 ≡ Some (Faulty fault) → a ≡ b) → behind r a ≡ behind r b
behind_same (None, left) a b same = refl
behind_same (Some (Faulty fault), left) a b same = same fault refl
behind_same (Some (Calls call form), left) a b same = refl

-- any count above the most faults that are to come is enough
enough : FaultsTakeBytes
    → (n j : ℕ) (h : Held)
    → most_faults h < n
    → most_faults h < j
    → past_faults_upto n h ≡ past_faults_upto j h
enough law zero j h hn hj = absurd (omega arith)
enough law (suc n) zero h hn hj = absurd (omega arith)
enough law (suc n) (suc j) h hn hj =
    behind_same (next_of h) _ _
    (λ fault e. let shorter = law h fault e in enough law n j (next_of h).1 (omega arith) (omega arith))

passes : (r later : Given) (fault : Fault) → r.0 ≡ Some (Faulty fault) → behind r later ≡ later
passes (None, left) later fault e = cc
passes (Some (Faulty other), left) later fault e = refl
passes (Some (Calls call form), left) later fault e = cc

-- after a fault is what is after the rest
passed_one : FaultsTakeBytes
    → (h left : Held) (fault : Fault)
    → (next_of h).0 ≡ Some (Faulty fault)
    → left ≡ (next_of h).1
    → past_faults left ≡ past_faults h
passed_one law h left fault e is =
    let less = law h fault e in
    let same : past_faults_upto (suc (most_faults (next_of h).1)) (next_of h).1
    ≡ past_faults_upto (most_faults h) (next_of h).1 =
    enough law (suc (most_faults (next_of h).1)) (most_faults h) (next_of h).1 (omega arith) less in
    rw is (same ∙ sym (passes (next_of h) (past_faults_upto (most_faults h) (next_of h).1) fault e))

-- a step that emits is a fault's
emits : (r : Given) → Emit ≡ step_of r → (fault : Fault) × (r.0 ≡ Some (Faulty fault))
emits (None, left) e = by_closed left.closed e
  where
    by_closed : (b : Bool) → Emit ≡ cond b Close Wait → (fault : Fault) × (None ≡ Some (Faulty fault))
    by_closed true e = cc
    by_closed false e = cc
emits (Some (Faulty fault), left) e = (fault, refl)
emits (Some (Calls call form), left) e = cc

-- one fault more is passed, and what stands after the faults stays
pub passed_step : FaultsTakeBytes
    → (h left : Held)
    → Emit ≡ step_of (next_of h)
    → left ≡ (next_of h).1
    → past_faults left ≡ past_faults h
passed_step law h left e is = let fault = emits (next_of h) e in passed_one law h left fault.0 fault.1 is

-- after a fault fewer can come, so that passing them ends
pub shorter_step : FaultsTakeBytes
    → (h left : Held)
    → Emit ≡ step_of (next_of h)
    → left ≡ (next_of h).1
    → most_faults left < most_faults h
shorter_step law h left e is = let fault = emits (next_of h) e in rw is (law h fault.0 fault.1)
