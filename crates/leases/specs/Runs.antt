-- What the machines do at instants: what a server heard, and what a master's watch was told.
use Rattle.std.specs.Prelude.{◌≡◌, ℕ, ◌≤◌, ◌<◌, max, Bool, true, List, [], ◌∷◌, ◌++◌, Some}
use Rattle.leases.specs.declared.orders.Order.{Order}
use Rattle.leases.specs.declared.orders.Order.TheVariants as orders
use Rattle.leases.specs.declared.watches.WatchStanding.{WatchStanding}
use Rattle.leases.specs.declared.watches.WatchStanding.TheVariants.{Watched, Told, Over, Gone}
use Rattle.leases.specs.declared.watches.WatchDue.TheVariants.{TellSilent}
use Rattle.leases.specs.Clocks.{Clock}
use Rattle.leases.specs.Leases.{Beat, LeasedAnswer, Pair, Notice, IsBeatByRule}
use Rattle.leases.specs.Holding.{LeaseState, unheld, holds, Hearing, Hears, hears}
use Rattle.leases.specs.Watching.{WatchState, Happening, Answers, Refuses, Asks, Spares, happen, due}

-- An order that a server heard at an instant, while it knew these to be gone.
pub data TimedOrder : Type 0 where
  At : ℕ → Order → ℕ → TimedOrder

-- what that is by its clock
abbrev pub timed_order_by : Clock → TimedOrder → Hearing
timed_order_by clock (At x order gone) = Hears order gone (clock x)

abbrev pub timed_orders_by : Clock → List TimedOrder → List Hearing
timed_orders_by clock [] = []
timed_orders_by clock (e ∷ es) = timed_order_by clock e ∷ timed_orders_by clock es

-- what a server with this term knows of its lease once it has heard these, from its start on
abbrev pub lease_after : Clock → ℕ → List TimedOrder → LeaseState
lease_after clock term timed_orders = hears (unheld (Some term)) (timed_orders_by clock timed_orders)

-- A beat of this epoch with this stamp that was taken at an instant came about by the rule of beats.
pub record IsBrought (pair : Pair) (term : ℕ) (notice : Notice) (x r s : ℕ) : Type 0 where
  pub beat : Beat
  pub taken : beat.taken ≡ x
  pub epoch : beat.epoch ≡ r
  pub shown : pair.clock beat.stamped ≡ s
  pub by_rule : IsBeatByRule pair term notice beat

-- What the watched server of a pair heard, of masters that keep to the rule of beats.
pub record IsRun (pair : Pair) (term : ℕ) (notice : Notice) (timed_orders : List TimedOrder) : Type 0 where
  -- when it takes a beat it is in the epoch that it entered last,
  pub epoch : (before after : List TimedOrder) (x epoch stamp gone : ℕ)
      → timed_orders ≡ before ++ At x (orders.Beat epoch (Some stamp)) gone ∷ after
      → pair.epoch x ≡ (lease_after pair.clock term before).epoch
  -- and each beat of that epoch was brought.
  pub brought : (before after : List TimedOrder) (x epoch stamp gone : ℕ)
      → timed_orders ≡ before ++ At x (orders.Beat epoch (Some stamp)) gone ∷ after
      → pair.epoch x ≡ epoch
      → IsBrought pair term notice x epoch stamp

-- What a watch was told or asked at an instant.
pub data Doing : Type 0 where
  Answered : ℕ → ℕ → Doing
  Refused : Doing
  Asked : ℕ → Bool → Doing
  Spared : Doing

-- what that is by the master's clock
abbrev pub doing_by : Clock → Doing → Happening
doing_by clock (Answered x stamp) = Answers stamp (clock x)
doing_by clock Refused = Refuses
doing_by clock (Asked x whole) = Asks whole (clock x)
doing_by clock Spared = Spares

-- what the watch knows after these
abbrev pub watch_after : Clock → WatchState → List Doing → WatchState
watch_after clock w [] = w
watch_after clock w (d ∷ ds) = watch_after clock (happen w (doing_by clock d)) ds

-- the instant of the last answer that counted, if those before were heard until this one
abbrev pub counted : WatchStanding → ℕ → ℕ → ℕ
counted Watched heard x = max heard x
counted Told heard x = heard
counted Over heard x = heard
counted Gone heard x = heard

abbrev pub heard_by : WatchStanding → ℕ → Doing → ℕ
heard_by standing heard (Answered x stamp) = counted standing heard x
heard_by standing heard Refused = heard
heard_by standing heard (Asked x whole) = heard
heard_by standing heard Spared = heard

abbrev pub heard_after : Clock → WatchState → ℕ → List Doing → ℕ
heard_after clock w heard [] = heard
heard_after clock w heard (d ∷ ds) =
    heard_after clock (happen w (doing_by clock d)) (heard_by w.standing heard d) ds

-- A watch begins at an instant, over a server with a lease of this term.
pub record Begins (clock : Clock) (t x : ℕ) (w : WatchState) : Type 0 where
  pub term : w.term ≡ Some t
  pub heard : w.heard ≡ clock x
  pub standing : w.standing ≡ Watched

-- A watch that began at an instant says at another one, for the first time, that the others are told.
pub record SaysSilent (clock : Clock) (term begun : ℕ) (w : WatchState) (doings : List Doing) (whole : Bool)
    (decided : ℕ) : Type 0 where
  pub begins : Begins clock term begun w
  pub going : (watch_after clock w doings).standing ≡ Told
  pub says : due (watch_after clock w doings) whole (clock decided) ≡ TellSilent

-- A master whose clock this is called the watched server of a pair silent, by its watch, and the other one was told.
pub record IsCalledSilent (pair : Pair) (term : ℕ) (clock : Clock) (begun : ℕ) (w : WatchState) (doings : List Doing)
    (whole : Bool) (notice : Notice) : Type 0 where
  pub says : SaysSilent clock term begun w doings whole notice.decided
  -- the last answer that counted
  pub heard : notice.heard ≡ heard_after clock w begun doings
  -- the server had entered the master's epoch by then
  pub entered : (x : ℕ) × ((pair.epoch x ≡ notice.epoch) × (x ≤ notice.heard))
  pub decided : notice.decided ≤ notice.told
  -- the other one is in that epoch, and goes on
  pub own : pair.other notice.told ≡ notice.epoch
  pub lives : notice.told < pair.end

-- The watched server answers a look: its lease holds by a reading after the look, once it has heard these.
pub record AnswersLook (pair : Pair) (term : ℕ) (timed_orders : List TimedOrder) (look : LeasedAnswer) : Type 0 where
  pub after : look.taken ≤ look.read
  pub held : holds (lease_after pair.clock term timed_orders) (pair.clock look.read) ≡ true
