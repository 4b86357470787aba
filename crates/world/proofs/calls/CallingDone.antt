-- An action keeps what is known of calls.
use Rattle.std.proofs.Common.{ℕ}
use Rattle.node.specs.Actions.{Action, Cause}
use Rattle.world.proofs.trace.Traces.{Traced, done}
use Rattle.world.proofs.trace.Layers.{Calling}
use Rattle.world.proofs.calls.StepInputs.{IsStep}
use Rattle.world.proofs.calls.CallsDone.{pending_done, asking_done}
use Rattle.world.proofs.calls.ConnectionsDone.{issued_begun, issued_once, next_done, alone_done, handed_done}
use Rattle.world.proofs.calls.ConnectionsDone.{waiting_done, asks_done}
use Rattle.world.proofs.calls.LegalLogs.{ids_done, seen_done, decided_done}

-- an action of a living server keeps all that is known of calls
pub calling_done : (t : Traced) (i : ℕ) (cause : Cause) (a : Action) → IsStep t i cause a → Calling (done t i a)
calling_done t i cause a g = record {
  begun = λ o k x h. issued_begun t i cause a o k x g h;
  next_id = λ o lt. next_done t i cause a o g lt;
  once = λ o p k l x h f. issued_once t i cause a o p k l x g h f;
  ids = λ j k e h. ids_done t i cause a j k e g h;
  seen = λ j o lt l. seen_done t i cause a j o g lt l;
  decided = λ j k e h. decided_done t i cause a j k e g h;
  pend = λ j u lt h. pending_done t i cause a j u g lt h;
  asks = λ j r lt h. asking_done t i cause a j r g lt h;
  alone = λ j r q lt h f e. alone_done t i cause a j r q g lt h f e;
  handed = λ x reply h. handed_done t i cause a x reply g h;
  waiting = λ c l reply h stage. waiting_done t i cause a c l reply g h stage;
  issues = λ x y m h. asks_done t i cause a x y m g h;
}
