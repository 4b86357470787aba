-- Times: instants, which nobody reads, and what clocks show at them.
use Rattle.std.specs.Prelude.{ℕ, ◌+◌, ◌-◌, ◌*◌, ◌/◌, ◌≤◌}
use Rattle.leases.specs.declared.terms.TheConstants.{GRAIN}

-- What a clock shows at each instant, in nanoseconds. Instants are numbers of a common time that nobody reads.
abbrev pub Clock : Type 0
Clock = ℕ → ℕ

-- it never goes back
abbrev pub NeverFalls : (ℕ → ℕ) → Type 0
NeverFalls clock = (a b : ℕ) → a ≤ b → clock a ≤ clock b

-- how much passes on a clock between two instants
abbrev pub passed : Clock → ℕ → ℕ → ℕ
passed clock a b = clock b - clock a

-- Between any two instants the first clock shows at most eleven tenths of what the second one does: it is a tenth too
-- fast at most. A clock may move in steps: a grain doesn't count.
abbrev pub IsHardlyFaster : Clock → Clock → Type 0
IsHardlyFaster fast slow = (a b : ℕ) → a ≤ b → 10 * passed fast a b ≤ 11 * (passed slow a b + GRAIN)

-- enough has passed on a clock that a term has passed on each clock than which it is hardly faster
abbrev pub IsSurelyOver : ℕ → ℕ → Type 0
IsSurelyOver term passed = 11 * (term + GRAIN) ≤ 10 * passed

-- how long to wait for that: the term and a grain, a tenth more, and what rounding takes
abbrev pub wait_for : ℕ → ℕ
wait_for term = (term + GRAIN) + (term + GRAIN) / 10 + 1
