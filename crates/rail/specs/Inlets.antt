-- Inlets.
use Rattle.std.specs.Prelude.{◌≡◌, ℕ, zero, suc, ◌+◌, List, [], ◌∷◌, ◌++◌, All}
use Rattle.atomic_table.specs.Seated.{TableId}
use Rattle.rail.specs.declared.inbox_messages.InboxMessage.{InboxMessage}
use Rattle.rail.specs.declared.inbox.InboxKnowledge.{InboxKnowledge}

-- An inlet: the inbox to which it leads, its number among the senders there, and what it sent. An inbox is known by the
-- table of its queue, which no other queue shares.
pub record InletState : Type 0 where
  pub inbox : TableId
  pub number : ℕ
  pub sent : List InboxMessage

-- what an inlet shows of its inbox and of its pass
abbrev pub inlet_of : TableId → InboxKnowledge → InletState
inlet_of inbox pass = record { inbox = inbox; number = pass.from; sent = pass.put }

-- an inlet that sent nothing
abbrev pub inlet_at : TableId → ℕ → InletState
inlet_at b k = record { inbox = b; number = k; sent = [] }

-- n inlets of one inbox that sent nothing, numbered from k on
abbrev pub inlets_from : TableId → ℕ → ℕ → List InletState
inlets_from b k zero = []
inlets_from b k (suc n) = inlet_at b k ∷ inlets_from b (k + 1) n

-- all of these lead to this inbox
abbrev pub LeadTo : TableId → List InletState → Type 0
LeadTo b inlets = All (λ inlet. inlet.inbox ≡ b) inlets

-- an inlet that sent one inbox message more
abbrev pub with_inbox_message : InletState → InboxMessage → InletState
with_inbox_message i inbox_message = record i { sent = i.sent ++ inbox_message ∷ [] }
