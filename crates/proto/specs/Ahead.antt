-- Updates that are taken ahead of their turns.
use Rattle.std.specs.Prelude.{◌≡◌, ℕ, Bool, true, false, List, [], ◌∷◌, ◌++◌, drop, Option, None, Some, ◌||◌, not}
use Rattle.std.specs.Prelude.{is_some}
use Rattle.std.specs.Prelude.{if◌then◌else◌}
use Rattle.table.specs.Operations.{Fits, Suits, is_update}
use Rattle.table.specs.declared.operations.Call.{Call}
use Rattle.table.specs.declared.operations.Target.TheVariants.{One, All}
use Rattle.table.specs.declared.operations.Op.TheVariants.{Delete as DeleteOp, Flush as FlushOp}
use Rattle.proto.specs.declared.ahead.Update.{Update}
use Rattle.proto.specs.declared.front.Found.{Found}
use Rattle.proto.specs.declared.front.Found.TheVariants.{Request as Requested, Refused, Nothing}
use Rattle.proto.specs.declared.requests.Request.{Request}
use Rattle.proto.specs.declared.requests.Request.TheVariants.{Store, Get, Arith, Delete, Flush, Quit, Bad}
use Rattle.proto.specs.Fronts.{found_at}
use Rattle.proto.specs.Sessions.{Held}
use Rattle.proto.specs.Turns.{none_left}

-- the update that a request is, and whether it is silent
abbrev pub update_of : Request → Option (Call × Bool)
update_of (Store key op silent) = Some (record { target = One key; op = op }, silent)
update_of (Get keys unique) = None
update_of (Arith key op silent) = Some (record { target = One key; op = op }, silent)
update_of (Delete key silent) = Some (record { target = One key; op = DeleteOp }, silent)
update_of (Flush silent) = Some (record { target = All; op = FlushOp }, silent)
update_of Quit = None
update_of (Bad fault) = None

-- the same of what is at the front of a stream
abbrev pub update_at : Found → Option (Call × Bool)
update_at (Requested request n) = update_of request
update_at (Refused skipped_block) = None
update_at Nothing = None

-- A session is between two requests: it isn't closed, no key of a get is left, and no refused block is passed over.
pub record IsBetween (h : Held) : Type 0 where
  pub unclosed : h.closed ≡ false
  pub later : h.later ≡ []
  pub skipped_block : h.skipped_block ≡ None

-- the update that can be taken ahead: the one at the front, between two requests
abbrev pub ahead_of : Held → Option (Call × Bool)
ahead_of h =
    if h.closed || not (none_left h.later) || is_some h.skipped_block then None else update_at (found_at h.unread)

-- An update was taken from the front of the unread bytes, between two requests.
pub record IsTakenAhead (update : Update) (h left : Held) : Type 0 where
  pub between : IsBetween h
  pub request : Request
  pub n : ℕ
  pub front : found_at h.unread ≡ Requested request n
  pub is : update_of request ≡ Some (update.call, update.silent)
  pub left_is : left ≡ record h { unread = drop n h.unread }
  pub fits : Fits update.call.op
  pub suits : Suits update.call.target update.call.op
  pub update_is : is_update update.call.op ≡ true

-- These bytes spell an update for each of these, in turn, silent if it is.
abbrev pub AreAhead : List Bool → List ℕ → Type 0
AreAhead [] bytes = bytes ≡ []
AreAhead (silent ∷ later) bytes =
    (request : Request) × (call : Call) × (n : ℕ) × (found_at bytes ≡ Requested request n)
    × (update_of request ≡ Some (call, silent)) × (is_update call.op ≡ true) × AreAhead later (drop n bytes)
