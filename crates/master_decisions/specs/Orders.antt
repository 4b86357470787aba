-- What a master sends and hears, as frames carry it (docs/FORMATS.md, "Peer messages").
use Rattle.std.specs.Prelude.{◌≡◌, ◌⊎◌, ℕ, ◌≤◌, ◌*◌, Option, None, Some}
use Rattle.leases.specs.declared.terms.TheConstants.{LONGEST, SECOND}
use Rattle.leases.specs.declared.orders.Order.{Order}
use Rattle.leases.specs.declared.orders.Order.TheVariants as orders
use Rattle.leases.specs.declared.orders.Report.{Report}
use Rattle.wire.specs.declared.frames.Frame.{Frame}
use Rattle.wire.specs.declared.frames.Frame.TheVariants as frames
use Rattle.wire.specs.declared.watching.Alive.{Alive}

-- a number that may be missing, as a field: 0 stands for none
abbrev pub number_of : Option ℕ → ℕ
number_of None = 0
number_of (Some number) = number

-- an order as a frame
abbrev pub frame_of : Order → Frame
frame_of (orders.Reign epoch) = frames.Reign epoch
frame_of (orders.Beat epoch stamp) = frames.Beat (record { epoch = epoch; stamp = number_of stamp })
frame_of (orders.Silent epoch id) = frames.Silent (record { epoch = epoch; id = id })
frame_of (orders.Gone id) = frames.Gone id

-- a field that is the term of a lease, or says that it has none
abbrev pub IsTerm : ℕ → Type 0
IsTerm field = (field ≡ 0) ⊎ ((SECOND ≤ field) × (field ≤ LONGEST * SECOND))

-- A frame says of a server what a report says.
pub record Tells (alive : Alive) (report : Report) : Type 0 where
  pub epoch : report.epoch ≡ alive.epoch
  pub stamp : report.stamp ≡ alive.stamp
  pub end : report.end ≡ alive.end
  pub term : number_of report.term ≡ alive.term
  pub gone : report.gone ≡ alive.gone
  pub known : report.known ≡ alive.known

-- the server that an order names as silent or gone, if it does
abbrev pub named_in : Order → Option ℕ
named_in (orders.Reign epoch) = None
named_in (orders.Beat epoch stamp) = None
named_in (orders.Silent epoch id) = Some id
named_in (orders.Gone id) = Some id
