-- Seats.
use Rattle.std.specs.Prelude.{◌≡◌, ℕ, ◌==◌, if◌then◌else◌, List, [], ◌∷◌, ◌++◌, map}
use Rattle.faces.specs.Histories.{Instance, History}
use Rattle.node.specs.declared.messages.Input.{Input}
use Rattle.node.specs.declared.messages.Input.TheVariants.{Call as Called, From, Gone}
use Rattle.rail.specs.declared.inbox_messages.InboxMessage.{InboxMessage}
use Rattle.rail.specs.declared.inbox_messages.InboxMessage.TheVariants.{Took, Stop, End}
use Rattle.rail.specs.declared.reply_channels.ReplyKnowledge.{ReplyKnowledge}
use Rattle.rail.specs.CallSenders.{CallSenderState, SentCall}
use Rattle.rail.specs.NotedReplies.{NotedReply}
use Rattle.table.specs.declared.operations.Call.{Call}
use Rattle.table.specs.declared.operations.Reply.{Reply}

-- a seat: its server, its port, the calls that were sent at it, in order, and the replies that it took
pub record SeatState : Type 0 where
  pub instance : Instance
  pub port : ℕ
  pub calls : List SentCall
  pub got : List NotedReply

-- what a seat shows of its calls, and of the pass of its replies
abbrev pub seat_of : List SentCall → ReplyKnowledge → SeatState
seat_of calls replies = record { instance = replies.instance; port = replies.port; calls = calls; got = replies.list }

-- a seat at which this sender sent one call more
abbrev pub with_sent : SeatState → CallSenderState → Call → SeatState
with_sent s sender call = record s { calls = s.calls ++ (record { sender = sender; call = call }) ∷ [] }

-- a seat that took one reply more, with this note
abbrev pub with_reply : SeatState → Reply → History → SeatState
with_reply s reply told = record s { got = s.got ++ (record { port = s.port; reply = reply; told = told }) ∷ [] }

-- these calls, after that of the input, if it is one from port p
abbrev pub with_called : ℕ → Input → List Call → List Call
with_called p (Called port call) calls = if p == port then call ∷ calls else calls
with_called p (From i peer) calls = calls
with_called p (Gone j) calls = calls

-- the calls from port p among these inbox messages, in order
abbrev pub calls_of : ℕ → List InboxMessage → List Call
calls_of p [] = []
calls_of p (Took input ∷ es) = with_called p input (calls_of p es)
calls_of p (Stop ∷ es) = calls_of p es
calls_of p (End ∷ es) = calls_of p es

-- what the sender sent from the seat's port is what was sent at the seat
abbrev pub IsInStep : CallSenderState → SeatState → Type 0
IsInStep sender seat = calls_of seat.port sender.sent ≡ map (λ (sent : SentCall). sent.call) seat.calls
