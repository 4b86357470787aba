-- What a worker is sent.
use Rattle.std.specs.Prelude.{ℕ, List, [], ◌∷◌}
use Rattle.node.specs.Replies.{AreCallsBelow}
use Rattle.rail.specs.declared.inbox_messages.InboxMessage.{InboxMessage}
use Rattle.rail.specs.declared.inbox_messages.InboxMessage.TheVariants.{Took, Stop, End}
use Rattle.rail.specs.declared.inbox_messages.Envelope.{Envelope}

-- an input that is a call has a port below this number
abbrev pub IsBelow : ℕ → InboxMessage → Type 0
IsBelow ports (Took input) = AreCallsBelow ports (input ∷ [])
IsBelow ports Stop = Unit {0}
IsBelow ports End = Unit {0}

-- the same of all of these
abbrev pub AreBelow : ℕ → List Envelope → Type 0
AreBelow ports [] = Unit {0}
AreBelow ports (m ∷ ms) = IsBelow ports m.inbox_message × AreBelow ports ms
