-- Seats that answer calls one after another: by a look beside the server, or by the server.
use Rattle.std.specs.Prelude.{◌≡◌, ◌⊎◌, ℕ, Bool, false}
use Rattle.table.specs.declared.operations.Call.{Call}
use Rattle.table.specs.declared.operations.Reply.{Reply}
use Rattle.faces.specs.Histories.{History, IsLater}
use Rattle.faces.specs.Readers.{Looking}
use Rattle.rail.specs.CallSenders.{CallSenderState, with_call}
use Rattle.rail.specs.Seats.{SeatState}
use Rattle.seats.specs.Replies.{HasAllReplies, IsSubmitted, ShowsReply}

-- What its reader has seen or was told of, its seat, and the sender of its seat's calls; whether a call that was sent
-- got no reply; and how many calls have failed.
pub record SeatCalling : Type 0 where
  pub seen : History
  pub seat : SeatState
  pub sender : CallSenderState
  pub lost : Bool
  pub failures : ℕ

-- one that has made no call
abbrev pub seat_calling : Looking → SeatState → CallSenderState → SeatCalling
seat_calling reader seat sender =
    record { seen = reader.seen; seat = seat; sender = sender; lost = false; failures = 0 }

-- reader, seat and sender are of one server, and unless it is lost, each call has its reply
pub record IsSeatCaller (reader : Looking) (seat : SeatState) (sender : CallSenderState) (lost : Bool) : Type 0 where
  pub together : seat.instance ≡ reader.seen.instance
  pub server : seat.instance ≡ sender.instance
  pub replied : lost ≡ false → HasAllReplies seat

-- A look is the reply: nothing was sent, and what was looked at begins with all that had been seen.
pub record IsSeen (c d : SeatCalling) (call : Call) (reply : Reply) : Type 0 where
  pub later : IsLater c.seen d.seen
  pub shown : ShowsReply d.seen call reply
  pub unsent : (d.seat ≡ c.seat) × (d.sender ≡ c.sender)

-- The server replied: the seat had a reply to each call before; its sender sent this call from it, once; and one reply
-- was taken, which the server had put out for this seat; all that the server had published by then has been seen, and
-- all that had been seen before.
pub record IsExchanged (before after : History) (seat then : SeatState) (sender next : CallSenderState) (call : Call)
    (reply : Reply) : Type 0 where
  pub submitted : IsSubmitted before after seat then (record { sender = sender; call = call }) reply
  pub sent : next ≡ with_call sender seat.port call

-- the call was replied to: by a look, or by the server
abbrev pub HasReplied : SeatCalling → Call → Reply → SeatCalling → Type 0
HasReplied c call reply d =
    IsSeen c d call reply
    ⊎ ((c.lost ≡ false) × IsExchanged c.seen d.seen c.seat d.seat c.sender d.sender call reply)
