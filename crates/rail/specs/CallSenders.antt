-- Senders of calls.
use Rattle.std.specs.Prelude.{ℕ, List, [], ◌∷◌, ◌++◌}
use Rattle.atomic_table.specs.Seated.{TableId}
use Rattle.faces.specs.Histories.{Instance}
use Rattle.node.specs.declared.messages.Input.TheVariants.{Call as Called}
use Rattle.table.specs.declared.operations.Call.{Call}
use Rattle.rail.specs.declared.inbox_messages.InboxMessage.{InboxMessage}
use Rattle.rail.specs.declared.inbox_messages.InboxMessage.TheVariants.{Took}
use Rattle.rail.specs.declared.inbox.InboxKnowledge.{InboxKnowledge}

-- a sender of calls: its server, the inbox to which it sends and its number among the senders there (`InletState`), and
-- what it sent
pub record CallSenderState : Type 0 where
  pub instance : Instance
  pub inbox : TableId
  pub number : ℕ
  pub sent : List InboxMessage

-- what a sender of calls shows of its server, its inbox and its pass
abbrev pub call_sender_of : Instance → TableId → InboxKnowledge → CallSenderState
call_sender_of instance inbox pass = record { instance = instance; inbox = inbox; number = pass.from; sent = pass.put }

-- a sender of calls that sent nothing
abbrev pub call_sender_at : Instance → TableId → ℕ → CallSenderState
call_sender_at o b k = record { instance = o; inbox = b; number = k; sent = [] }

-- a sender that sent one call more, from this port
abbrev pub with_call : CallSenderState → ℕ → Call → CallSenderState
with_call s port call = record s { sent = s.sent ++ Took (Called port call) ∷ [] }

-- a call that was sent, and its sender as it was before it sent it
pub record SentCall : Type 0 where
  pub sender : CallSenderState
  pub call : Call
