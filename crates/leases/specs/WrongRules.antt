-- Rules that would not do: a look that was answered, and was taken once others may have been told.
use Rattle.std.specs.Prelude.{ℕ, ◌+◌, ◌≤◌, ◌<◌}
use Rattle.leases.specs.Clocks.{Clock, passed, IsHardlyFaster}
use Rattle.leases.specs.Leases.{Beat, LeasedAnswer, IsAnswered}

-- The lease runs from when the beat was taken, by clocks that agree. The beat was sent as soon as the server was heard,
-- and came late. The look was taken when the master had waited for so long.
pub record IsLateByReceipt (term wait : ℕ) (beat : Beat) (look : LeasedAnswer) : Type 0 where
  pub sent : beat.heard ≤ beat.taken
  pub came : beat.taken ≤ look.taken
  pub after : look.taken ≤ look.read
  pub held : look.read < beat.taken + term
  pub late : beat.heard + wait ≤ look.taken

-- The master waits for the term alone, by its own clock.
pub record IsLateByTerm (master server : Clock) (term : ℕ) (beat : Beat) (look : LeasedAnswer) : Type 0 where
  pub pace : IsHardlyFaster master server
  pub heard : beat.stamped ≤ beat.heard
  pub answered : IsAnswered server term beat look
  pub late : term ≤ passed master beat.heard look.taken

-- The clock is read before the look, by clocks that agree.
pub record IsLateByLooking (term wait : ℕ) (beat : Beat) (look : LeasedAnswer) : Type 0 where
  pub before : look.read ≤ look.taken
  pub held : look.read < beat.stamped + term
  pub heard : beat.stamped ≤ beat.heard
  pub late : beat.heard + wait ≤ look.taken
