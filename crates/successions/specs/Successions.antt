-- A member's side: what it has accepted, which orders it obeys, and what it reports (this project's rule).
use Rattle.std.specs.Prelude.{ℕ, ◌+◌, ◌-◌, ◌^◌, min, max, nat_eq, Bool, true, false, not, ◌&&◌, Option, None, Some}
use Rattle.std.specs.Prelude.{if◌then◌else◌}
use Rattle.successions.specs.declared.members.Members.{Members}
use Rattle.successions.specs.declared.members.Acceptance.{Acceptance}
use Rattle.successions.specs.declared.orders.Order.{Order}
use Rattle.successions.specs.declared.orders.Order.TheVariants.{Seal, Resume, Poll, Switch, Open}
use Rattle.successions.specs.declared.orders.Phase.{Phase}
use Rattle.successions.specs.declared.orders.Phase.TheVariants.{Started, Serving, Sealed, Switched}
use Rattle.successions.specs.declared.orders.Standing.{Standing}
use Rattle.successions.specs.declared.orders.Report.{Report}
use Rattle.successions.specs.Lists.{is_same}

-- What a member knows of its generation.
pub record SuccessionState : Type 0 where
  -- the highest epoch that greeted it; 0 before the first
  pub epoch : ℕ
  -- its generation, and who its members are
  pub generation : ℕ
  pub own : Members
  -- what it is at
  pub phase : Phase
  -- the last epoch that had it go on; 0 if none had
  pub resumed : ℕ
  -- how many reports it has given
  pub given : ℕ

-- a member of a generation that is open from the start on
abbrev pub serving : ℕ → Members → SuccessionState
serving generation own =
    record { epoch = 0; generation = generation; own = own; phase = Serving; resumed = 0; given = 0 }

-- a member of a generation that isn't open yet
abbrev pub started : ℕ → Members → SuccessionState
started generation own =
    record { epoch = 0; generation = generation; own = own; phase = Started; resumed = 0; given = 0 }

-- it is in an epoch, unless it is in a later one
abbrev pub entered : SuccessionState → ℕ → SuccessionState
entered m epoch = record m { epoch = max m.epoch epoch }

-- the order is of the epoch that it is in, and of its generation
abbrev pub is_own : SuccessionState → ℕ → ℕ → Bool
is_own m epoch generation = nat_eq epoch m.epoch && nat_eq generation m.generation

-- what it has accepted, if it has left nothing open: it may switch to that
abbrev pub acceptance_of : Phase → Option Acceptance
acceptance_of Started = None
acceptance_of Serving = None
acceptance_of (Sealed acceptance) = Some acceptance
acceptance_of (Switched acceptance) = Some acceptance

-- it may accept who is next
abbrev pub is_sealable : Phase → Bool
is_sealable Started = false
is_sealable Serving = true
is_sealable (Sealed acceptance) = true
is_sealable (Switched acceptance) = false

-- it has accepted who is next, and may still go on
abbrev pub is_sealed : Phase → Bool
is_sealed Started = false
is_sealed Serving = false
is_sealed (Sealed acceptance) = true
is_sealed (Switched acceptance) = false

-- it isn't open yet
abbrev pub is_started : Phase → Bool
is_started Started = true
is_started Serving = false
is_started (Sealed acceptance) = false
is_started (Switched acceptance) = false

-- its table is whole and quiet: of so many updates, all committed, with nothing on its way
abbrev pub is_quiet : Standing → ℕ → Bool
is_quiet standing count = standing.idle && (nat_eq standing.last count && nat_eq standing.committed count)

-- it accepts these as the next members in its epoch, unless that had it go on before
abbrev pub sealed : SuccessionState → ℕ → ℕ → Members → SuccessionState
sealed m epoch generation next =
    if is_own m epoch generation && (not (nat_eq epoch m.resumed) && is_sealable m.phase)
    then record m { phase = Sealed (record { epoch = epoch; next = next }) }
    else m

-- it goes on
abbrev pub resumed : SuccessionState → ℕ → ℕ → SuccessionState
resumed m epoch generation =
    if is_own m epoch generation && is_sealed m.phase
    then record m { phase = Serving; resumed = epoch }
    else m

-- it switches to those that it had accepted, if it is quiet with a table of so many updates
abbrev pub switched_to : Phase → Members → Standing → ℕ → Phase
switched_to Started next standing count = Started
switched_to Serving next standing count = Serving
switched_to (Sealed acceptance) next standing count =
    if is_same acceptance.next.processes next.processes && is_quiet standing count
    then Switched acceptance
    else Sealed acceptance
switched_to (Switched acceptance) next standing count = Switched acceptance

abbrev pub switched : SuccessionState → ℕ → ℕ → Members → ℕ → Standing → SuccessionState
switched m epoch generation next count standing =
    if is_own m epoch generation then record m { phase = switched_to m.phase next standing count } else m

-- its generation is open, if that has these members
abbrev pub opened : SuccessionState → ℕ → ℕ → Members → SuccessionState
opened m epoch generation own =
    if is_own m epoch generation && (is_same own.processes m.own.processes && is_started m.phase)
    then record m { phase = Serving }
    else m

-- what an order does, while its table is so
abbrev pub obeyed : SuccessionState → Order → Standing → SuccessionState
obeyed m (Seal epoch generation next) standing = sealed m epoch generation next
obeyed m (Resume epoch generation) standing = resumed m epoch generation
obeyed m (Poll epoch) standing = m
obeyed m (Switch epoch generation next count) standing = switched m epoch generation next count standing
obeyed m (Open epoch generation own) standing = opened m epoch generation own

-- it has given one more report; from the number 2^64 - 1 on they share it
abbrev pub counted : SuccessionState → SuccessionState
counted m = record m { given = min (m.given + 1) (2 ^ 64 - 1) }

-- the report that it gave last, if its table was so
abbrev pub report_of : SuccessionState → Standing → Report
report_of m standing =
    record { number = m.given; epoch = m.epoch; generation = m.generation; phase = m.phase; standing = standing }

-- it begins updates
abbrev pub begins_updates : Phase → Bool
begins_updates Started = false
begins_updates Serving = true
begins_updates (Sealed acceptance) = false
begins_updates (Switched acceptance) = false
