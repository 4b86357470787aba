-- How a look beside a running server, or the server, replies to a call.
use Rattle.std.specs.Prelude.{◌≡◌, ℕ, List, [], ◌∷◌, ◌++◌, length, Option}
use Rattle.table.specs.Items.{Item}
use Rattle.table.specs.declared.operations.Call.{Call}
use Rattle.table.specs.declared.operations.Target.TheVariants.{One}
use Rattle.table.specs.declared.operations.Op.TheVariants.{Read}
use Rattle.table.specs.declared.operations.Reply.{Reply}
use Rattle.table.specs.declared.operations.Reply.TheVariants.{Value}
use Rattle.node.specs.declared.messages.Output.TheVariants.{Reply as Replied}
use Rattle.node.specs.declared.looks.Look.TheVariants.{Clean}
use Rattle.node.specs.Faces.{look_at}
use Rattle.faces.specs.Histories.{History, IsLater, shown_after}
use Rattle.faces.specs.Outputs.{PutsOut}
use Rattle.rail.specs.CallSenders.{SentCall}
use Rattle.rail.specs.Seats.{SeatState}

-- The call reads a key, and a look at the face after these inputs shows the key clean with this item, or without one.
pub record ShowsClean (seen : History) (call : Call) (item : Option Item) : Type 0 where
  pub key : List ℕ
  pub reads : call ≡ record { target = One key; op = Read }
  pub clean : look_at (shown_after seen) key ≡ Clean item

-- The reply to the call is what that look shows.
abbrev pub ShowsReply : History → Call → Reply → Type 0
ShowsReply seen call reply = (item : Option Item) × (reply ≡ Value item) × ShowsClean seen call item

-- a seat that took as many replies as calls were sent at it
abbrev pub HasAllReplies : SeatState → Type 0
HasAllReplies seat = length seat.calls ≡ length seat.got

-- a seat at which this call was sent, once more, and which took this reply, once more, with what the server had
-- published by then
abbrev pub exchanged : SeatState → SentCall → Reply → History → SeatState
exchanged seat sent reply told =
    record seat {
      calls = seat.calls ++ sent ∷ [];
      got = seat.got ++ record { port = seat.port; reply = reply; told = told } ∷ [];
    }

-- The server is the one who replied: its sender sent the call, once, from the port of a seat that had a reply to each
-- call before; and one reply was taken, which the server had put out for this seat; the reader has seen all that the
-- server had published by then.
pub record IsSubmitted (before after : History) (seat then : SeatState) (sent : SentCall) (reply : Reply) : Type 0
  where
    pub replied : HasAllReplies seat
    pub server : sent.sender.instance ≡ seat.instance
    pub told : History
    pub later : IsLater before after
    pub learned : IsLater told after
    pub put_out : PutsOut told (Replied seat.port reply)
    pub exchange : then ≡ exchanged seat sent reply told
