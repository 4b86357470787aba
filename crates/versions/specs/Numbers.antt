-- Serves the fields of the code, here and in crate `node`; no public contract needs it. Lists of numbers of entries.
use Rattle.std.specs.Prelude.{ℕ, ◌<◌, ◌≤◌, nat_le, nat_lt, Bool, false, List, [], ◌∷◌, Option, None, Some}
use Rattle.std.specs.Prelude.{if◌then◌else◌}
use Rattle.std.specs.List.{filter}
use Rattle.std.specs.Option.{unwrap_or}
use Rattle.versions.specs.Entries.{LogEntry}

-- the numbers of the entries that pass a test, in order
abbrev pub numbers_of : (LogEntry → Bool) → List LogEntry → List ℕ
numbers_of test [] = []
numbers_of test (e ∷ es) = if test e then e.number ∷ numbers_of test es else numbers_of test es

-- the last number of a list, or none
abbrev pub last_of : List ℕ → Option ℕ
last_of [] = None
last_of (n ∷ ns) = Some (unwrap_or (last_of ns) n)

-- the last one that is at most n
abbrev pub last_up_to : ℕ → List ℕ → Option ℕ
last_up_to n ns = last_of (filter (λ k. nat_le k n) ns)

-- whether a number is there and above n
abbrev pub is_above : ℕ → Option ℕ → Bool
is_above n None = false
is_above n (Some k) = nat_lt n k

-- a number that is there is above low, and at most high
abbrev pub IsWithin : ℕ → ℕ → Option ℕ → Type 0
IsWithin low high None = Unit {0}
IsWithin low high (Some k) = (low < k) × (k ≤ high)

-- all are above a number, and each is above those before it
abbrev pub IsRising : ℕ → List ℕ → Type 0
IsRising before [] = Unit {0}
IsRising before (n ∷ ns) = (before < n) × IsRising n ns
