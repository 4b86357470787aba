-- What a sender sent from a port, and what was sent at the seat there.
use Rattle.std.proofs.Common.{◌≡◌, ◌≢◌, ◌∙◌, ℕ, ◌==◌, if◌then◌else◌, Bool, true, false, List, [], ◌∷◌, ◌++◌, map, refl}
use Rattle.std.proofs.Common.{ap, arith, sym}
use Rattle.std.proofs.lemmas.Bool.Decides.{nat_tests}
use Rattle.table.specs.declared.operations.Call.{Call}
use Rattle.node.specs.declared.messages.Input.{Input}
use Rattle.node.specs.declared.messages.Input.TheVariants.{Call as Called, From, Gone}
use Rattle.rail.specs.declared.inbox_messages.InboxMessage.{InboxMessage}
use Rattle.rail.specs.declared.inbox_messages.InboxMessage.TheVariants.{Took, Stop, End}
use Rattle.rail.specs.CallSenders.{CallSenderState, SentCall, with_call}
use Rattle.rail.specs.Seats.{IsInStep, SeatState, calls_of, with_called, with_sent}

-- the same, and one call more at the end
abbrev longer_if : Bool → List Call → Call → List Call
longer_if b calls call = if b then calls ++ call ∷ [] else calls

swap : (a b : Bool) (xs : List Call) (x y : Call)
    → (if a then x ∷ longer_if b xs y else longer_if b xs y) ≡ longer_if b (if a then x ∷ xs else xs) y
swap true true xs x y = refl
swap true false xs x y = refl
swap false true xs x y = refl
swap false false xs x y = refl

called_more : (p : ℕ) (b : Bool) (input : Input) (calls : List Call) (call : Call)
    → with_called p input (longer_if b calls call) ≡ longer_if b (with_called p input calls) call
called_more p b (Called port other) calls call = swap (p == port) b calls other call
called_more p b (From i peer) calls call = refl
called_more p b (Gone j) calls call = refl

-- one call more
calls_more : (p port : ℕ) (es : List InboxMessage) (call : Call)
    → calls_of p (es ++ Took (Called port call) ∷ []) ≡ longer_if (p == port) (calls_of p es) call
calls_more p port [] call = refl
calls_more p port (Took input ∷ es) call =
    ap (with_called p input) (calls_more p port es call) ∙ called_more p (p == port) input (calls_of p es) call
calls_more p port (Stop ∷ es) call = calls_more p port es call
calls_more p port (End ∷ es) call = calls_more p port es call

map_more : (sents : List SentCall) (sent : SentCall)
    → map (λ (s : SentCall). s.call) (sents ++ sent ∷ []) ≡ map (λ (s : SentCall). s.call) sents ++ sent.call ∷ []
map_more [] sent = refl
map_more (s ∷ sents) sent = ap (λ (calls : List Call). s.call ∷ calls) (map_more sents sent)

same : (p : ℕ) → (p == p) ≡ true
same p = grind (arith, nat_tests)

other : (p q : ℕ) → q ≢ p → (p == q) ≡ false
other p q n = grind (arith, nat_tests, n)

-- of the seat whose call was sent
pub own_step : (sender : CallSenderState) (seat : SeatState) (call : Call) → IsInStep sender seat
    → IsInStep (with_call sender seat.port call) (with_sent seat sender call)
own_step sender seat call step =
    calls_more seat.port seat.port sender.sent call
    ∙ (ap (λ (b : Bool). longer_if b (calls_of seat.port sender.sent) call) (same seat.port)
    ∙ (ap (λ (calls : List Call). calls ++ call ∷ []) step
    ∙ sym (map_more seat.calls (record { sender = sender; call = call }))))

-- of a seat at another port
pub others_step : (sender : CallSenderState) (seat : SeatState) (port : ℕ) (call : Call) → port ≢ seat.port
    → IsInStep sender seat
    → IsInStep (with_call sender port call) seat
others_step sender seat port call apart step =
    calls_more seat.port port sender.sent call
    ∙ (ap (λ (b : Bool). longer_if b (calls_of seat.port sender.sent) call) (other seat.port port apart) ∙ step)
