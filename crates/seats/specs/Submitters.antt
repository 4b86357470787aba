-- Seats at which a call is sent, and its reply is taken later.
use Rattle.std.specs.Prelude.{◌≡◌, Bool, true, false, not, if◌then◌else◌, List, [], ◌∷◌, ◌++◌, length}
use Rattle.std.specs.Prelude.{Option, Some, None}
use Rattle.table.specs.Operations.{is_update, is_value}
use Rattle.table.specs.declared.operations.Call.{Call}
use Rattle.table.specs.declared.operations.Reply.{Reply}
use Rattle.faces.specs.Histories.{History}
use Rattle.rail.specs.CallSenders.{SentCall}
use Rattle.rail.specs.Seats.{SeatState}
use Rattle.seats.specs.Replies.{HasAllReplies, IsSubmitted}
use Rattle.seats.specs.declared.submitters.SubmitterStage.{SubmitterStage}
use Rattle.seats.specs.declared.submitters.SubmitterStage.TheVariants.{Free, Read, Update, Lost}

-- A seat as it was before its open call was sent; that call, whose reply it hasn't taken, with its sender as it was
-- then; and whether it is lost, so that nothing is sent or answered any more.
pub record Submitting : Type 0 where
  pub seat : SeatState
  pub waiting : Option SentCall
  pub lost : Bool

-- a seat at which no call is open
abbrev pub unused : SeatState → Submitting
unused seat = record { seat = seat; waiting = None; lost = false }

-- these calls, and the open one
abbrev pub with_open : List SentCall → Option SentCall → List SentCall
with_open calls None = calls
with_open calls (Some sent) = calls ++ sent ∷ []

-- all calls that were sent at it, with the open one
abbrev pub all_sent : Submitting → List SentCall
all_sent s = with_open s.seat.calls s.waiting

-- The reply to the open call was taken: a sender of its server had sent the call, once, from the port of a seat that
-- had a reply to each call before; and one reply was taken, which the server had put out for this seat; the reader has
-- seen all that the server had published by then. It is an item, or none, exactly if the call is a read. No call is
-- open then.
pub record IsAnswered (before after : History) (s t : Submitting) (reply : Reply) : Type 0 where
  pub sent : SentCall
  pub waits : s.waiting ≡ Some sent
  pub submitted : IsSubmitted before after s.seat t.seat sent reply
  pub kind : is_value reply ≡ not (is_update sent.call.op)
  pub free : t.waiting ≡ None
  pub lost : (s.lost ≡ false) × (t.lost ≡ false)

-- the last call that was sent
abbrev pub last_sent : List SentCall → Option SentCall
last_sent [] = None
last_sent (e ∷ []) = Some e
last_sent (e ∷ (f ∷ es)) = last_sent (f ∷ es)

-- these calls without the last one
abbrev pub without_last : List SentCall → List SentCall
without_last [] = []
without_last (e ∷ []) = []
without_last (e ∷ (f ∷ es)) = e ∷ without_last (f ∷ es)

-- a seat at which the last call is open
abbrev pub open_at : SeatState → Submitting
open_at seat =
    record { seat = record seat { calls = without_last seat.calls }; waiting = last_sent seat.calls; lost = false }

-- what a seat shows at a stage
abbrev pub submitting : SubmitterStage → SeatState → Submitting
submitting Free seat = unused seat
submitting Read seat = open_at seat
submitting Update seat = open_at seat
submitting Lost seat = record { seat = seat; waiting = None; lost = true }

-- The last call is an update, or not, and was sent by a sender of this server. Each call before it has its reply.
pub record IsLastCall (seat : SeatState) (updates : Bool) : Type 0 where
  pub before : List SentCall
  pub sent : SentCall
  pub calls : seat.calls ≡ before ++ sent ∷ []
  pub kind : is_update sent.call.op ≡ updates
  pub server : sent.sender.instance ≡ seat.instance
  pub replied : length before ≡ length seat.got

-- a call that is open is the last one that was sent, and each other one has its reply
abbrev pub IsOpen : SubmitterStage → SeatState → Type 0
IsOpen Free seat = HasAllReplies seat
IsOpen Read seat = IsLastCall seat false
IsOpen Update seat = IsLastCall seat true
IsOpen Lost seat = Unit {0}

-- the stage once a call is sent
abbrev pub stage_of : Call → SubmitterStage
stage_of call = if is_update call.op then Update else Read

-- whether a reply is one to such a call
abbrev pub is_reply_at : SubmitterStage → Reply → Bool
is_reply_at Free reply = false
is_reply_at Read reply = is_value reply
is_reply_at Update reply = not (is_value reply)
is_reply_at Lost reply = false

-- it is one
abbrev pub IsReplyAt : SubmitterStage → Reply → Type 0
IsReplyAt stage reply = is_reply_at stage reply ≡ true
