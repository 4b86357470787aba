-- What masters are answered, as frames carry it.
use Rattle.std.specs.Prelude.{◌≡◌, ◌⊎◌, ℕ, ◌<◌, nat_eq, List, [], Option, Some, None, if◌then◌else◌}
use Rattle.node.specs.Views.{single, union}
use Rattle.leases.specs.declared.orders.Order.{Order}
use Rattle.leases.specs.declared.orders.Order.TheVariants as orders
use Rattle.leases.specs.declared.orders.Report.{Report}
use Rattle.leases.specs.declared.orders.Answer.{Answer}
use Rattle.leases.specs.declared.orders.Answer.TheVariants.{Tells, Notes}
use Rattle.leases.specs.Holding.{LeaseState, answer_to}
use Rattle.wire.specs.declared.frames.Frame.{Frame}
use Rattle.wire.specs.declared.frames.Frame.TheVariants.{Hello, Peer, Gone, Introduction, Accepted, Refused, Noted}
use Rattle.wire.specs.declared.frames.Frame.TheVariants.{Reign, Beat, Silent, Confirmed, Stalled}
use Rattle.wire.specs.declared.frames.Frame.TheVariants as frames
use Rattle.wire.specs.declared.watching.Alive.{Alive}
use Rattle.wire.specs.Spellings.{spelling}
use Rattle.links.specs.declared.orders.Response.{Response}
use Rattle.links.specs.declared.orders.Response.TheVariants as responses

-- the stamp that a beat brings back: 0 stands for none
abbrev pub stamp_in : ℕ → Option ℕ
stamp_in stamp = if nat_eq stamp 0 then None else Some stamp

-- how many nanoseconds a term has; 0 stands for none
abbrev pub number_of : Option ℕ → ℕ
number_of None = 0
number_of (Some term) = term

-- a report as a frame carries it
abbrev pub alive_of : Report → Alive
alive_of report = record {
  epoch = report.epoch;
  stamp = report.stamp;
  end = report.end;
  term = number_of report.term;
  gone = report.gone;
  known = report.known;
}

-- a notice names a server that a set can have
abbrev pub NamesServer : Order → Type 0
NamesServer (orders.Reign epoch) = Unit {0}
NamesServer (orders.Beat epoch stamp) = Unit {0}
NamesServer (orders.Silent epoch id) = id < 16
NamesServer (orders.Gone id) = id < 16

-- who is gone once a server has answered so: a notice adds whom it names
abbrev pub gone_after : ℕ → Answer → ℕ
gone_after gone (Tells report) = gone
gone_after gone (Notes id) = union gone (single id)

-- Some server answers an order so, at some time.
pub record IsAnswer (order : Order) (answer : Answer) : Type 0 where
  pub lease : LeaseState
  pub gone : ℕ
  pub now : ℕ
  pub same : answer ≡ answer_to lease order gone now

-- the bytes of a response
abbrev pub bytes_of : Response → List ℕ
bytes_of responses.Nothing = []
bytes_of (responses.Noted j) = spelling (Noted j)
bytes_of (responses.Alive alive) = spelling (frames.Alive alive)

-- These bytes tell how some server is once it has heard this order, which is no notice that it takes.
pub record TellsHow (order : Order) (bytes : List ℕ) : Type 0 where
  pub report : Report
  pub told : IsAnswer order (Tells report)
  pub spelled : bytes ≡ spelling (frames.Alive (alive_of report))

-- What answers a frame that was heard: a notice is noted, and an order of a lease is answered by how the server is
-- then. A notice of silence is either: one of another epoch isn't taken, and then the answer tells that.
abbrev pub Answers : Frame → List ℕ → Type 0
Answers (Hello id) bytes = bytes ≡ []
Answers (Peer peer) bytes = bytes ≡ []
Answers (Gone j) bytes = bytes ≡ spelling (Noted j)
Answers (Introduction opener) bytes = bytes ≡ []
Answers (Accepted answer) bytes = bytes ≡ []
Answers (Refused reason) bytes = bytes ≡ []
Answers (Noted j) bytes = bytes ≡ []
Answers (Reign epoch) bytes = TellsHow (orders.Reign epoch) bytes
Answers (Beat beat) bytes = TellsHow (orders.Beat beat.epoch (stamp_in beat.stamp)) bytes
Answers (frames.Alive alive) bytes = bytes ≡ []
Answers (Silent silent) bytes =
    TellsHow (orders.Silent silent.epoch silent.id) bytes ⊎ (bytes ≡ spelling (Noted silent.id))
Answers (Confirmed count) bytes = bytes ≡ []
Answers (Stalled servers) bytes = bytes ≡ []
