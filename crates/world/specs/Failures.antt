-- Failures: which servers the events of a schedule fail.
use Rattle.std.specs.Prelude.{ℕ, Bool, false, ◌||◌, ◌==◌, List, [], ◌∷◌}
use Rattle.world.specs.declared.events.Event.{Event}
use Rattle.world.specs.declared.events.Event.TheVariants.{Piece, Begin, Work, Deliver, Fail, Tell, Hand}

-- the event is the failure of server i
abbrev pub is_failure : Event → ℕ → Bool
is_failure (Piece c bytes) i = false
is_failure (Begin c) i = false
is_failure (Work c) i = false
is_failure (Deliver j k) i = false
is_failure (Fail j) i = i == j
is_failure (Tell j k) i = false
is_failure (Hand c) i = false

-- one of these events is
abbrev pub is_failed_by : List Event → ℕ → Bool
is_failed_by [] i = false
is_failed_by (e ∷ es) i = is_failure e i || is_failed_by es i
