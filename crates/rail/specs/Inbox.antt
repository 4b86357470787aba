-- The rule of the inbox.
use Rattle.std.specs.Prelude.{◌≡◌, ℕ, ◌≤◌, ◌==◌, if◌then◌else◌, true, false, List, [], ◌∷◌, ◌++◌, MatchResult}
use Rattle.std.specs.declared.result.Result.{Result}
use mathlib.Core.Option.{Option, some, none}
use lib.ListN.{get_elem?}
use Rattle.rail.specs.declared.inbox_messages.InboxMessage.{InboxMessage}
use Rattle.rail.specs.declared.inbox_messages.Envelope.{Envelope}
use Rattle.rail.specs.declared.inbox.InboxKnowledge.{InboxKnowledge}
use Rattle.rail.specs.InboxMessages.{IsBelow, AreBelow}

-- a sender's pass: its number, the ports of its calls (all below this number), and what it sent
abbrev pub sender : ℕ → ℕ → List InboxMessage → InboxKnowledge
sender from ports put = record { sends = true; from = from; ports = ports; put = put; gets = false; made = 0; got = [] }

-- the receiver's pass: how many senders were made, the ports of all calls, and what it took
abbrev pub taker : ℕ → ℕ → List Envelope → InboxKnowledge
taker made ports got = record { sends = false; from = 0; ports = ports; put = []; gets = true; made = made; got = got }

-- a pass of neither
abbrev pub nobody : InboxKnowledge
nobody = record { sends = false; from = 0; ports = 0; put = []; gets = false; made = 0; got = [] }

-- A sender's pass knows one inbox message more, or the inbox message was handed back.
abbrev pub HasSent : InboxKnowledge → InboxKnowledge → InboxMessage → Result (Unit {0}) InboxMessage → Type 0
HasSent v v' inbox_message r =
    MatchResult r (λ _. v'.put ≡ v.put ++ inbox_message ∷ []) (λ back. (back ≡ inbox_message) × (v' ≡ v))

-- The receiver's pass knows one message more, and a call's port is below the number of ports.
abbrev pub HasGot : InboxKnowledge → InboxKnowledge → Envelope → Type 0
HasGot v v' m = (v' ≡ taker v.made v.ports (v.got ++ m ∷ [])) × IsBelow v.ports m.inbox_message

-- what sender p sent of these, in order
abbrev pub of : ℕ → List Envelope → List InboxMessage
of p [] = []
of p (m ∷ ms) = if p == m.from then m.inbox_message ∷ of p ms else of p ms

-- each sender has one pass, which knows what it sent
abbrev pub FitsSender : (ℕ → Option ℕ) → (ℕ → List InboxMessage) → ℕ → ℕ → InboxKnowledge → Type 0
FitsSender seat sent ports pass v =
    v.sends ≡ true → (seat v.from ≡ some pass) × (v.put ≡ sent v.from) × (v.ports ≤ ports)

-- the one receiver knows what it took, and that later senders have sent nothing
abbrev pub FitsTaker : ℕ → (ℕ → Option ℕ) → (ℕ → List InboxMessage) → List Envelope → ℕ → ℕ → InboxKnowledge → Type 0
FitsTaker reader seat sent got ports pass v =
    v.gets ≡ true → (pass ≡ reader) × (v.got ≡ got) × (v.ports ≡ ports)
    × ((p : ℕ) → v.made ≤ p → (seat p ≡ none) × (sent p ≡ []))

abbrev pub Fits : ℕ → (ℕ → Option ℕ) → (ℕ → List InboxMessage) → List Envelope → ℕ → ℕ → InboxKnowledge → Type 0
Fits reader seat sent got ports pass v = FitsSender seat sent ports pass v × FitsTaker reader seat sent got ports pass v

-- For each sender, what was taken of it and then what stands of it in the queue is what it sent. The ports of the calls
-- that stand there are below the receiver's number.
pub record Delivers (items : List Envelope) (views : List InboxKnowledge) : Type 0 where
  pub reader : ℕ
  pub seat : ℕ → Option ℕ
  pub sent : ℕ → List InboxMessage
  pub got : List Envelope
  pub ports : ℕ
  pub order : (p : ℕ) → of p (got ++ items) ≡ sent p
  pub below : AreBelow ports items
  pub each : (pass : ℕ) (v : InboxKnowledge) → get_elem? views pass ≡ some v → Fits reader seat sent got ports pass v
