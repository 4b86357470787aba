-- Leases, as words give them (docs/RUNNING.md).
use Rattle.std.specs.Prelude.{ℕ, ◌*◌, Option, None, Some}
use Rattle.leases.specs.declared.terms.TheConstants.{SECOND}

-- the term of a lease that runs for this many seconds, in nanoseconds; none of no lease
abbrev pub term_of : Option ℕ → Option ℕ
term_of None = None
term_of (Some seconds) = Some (seconds * SECOND)
