-- Views: sets of servers known to have failed (this project's rule), and the chain's order in one.
use Rattle.std.specs.Prelude.{ℕ, zero, suc, ◌-◌, ◌^◌, bit_or, Bool, true, false, not, nat_eq, nat_lt, Option, Some}
use Rattle.std.specs.Prelude.{None, if◌then◌else◌}
use Rattle.std.specs.Int.{bit_at}

-- a set of servers: server i is the bit of value 2^i
abbrev pub View : Type 0
View = ℕ

-- the view names server i
unfoldable pub has : View → ℕ → Bool
has v i = nat_eq (bit_at v i) 1

-- those that one of the two names
unfoldable pub union : View → View → View
union u v = bit_or u v

-- server i alone
unfoldable pub single : ℕ → View
single i = 2 ^ i

-- the view names no server at or above the count
unfoldable pub is_below : View → ℕ → Bool
is_below v count = nat_lt v (2 ^ count)

-- the second view names a server that the first doesn't
unfoldable pub adds : View → View → Bool
adds u v = not (nat_eq (union u v) u)

-- the least server outside the view among the n from k on
unfoldable pub next_from : View → ℕ → ℕ → Option ℕ
next_from v k zero = None
next_from v k (suc many) = if has v k then next_from v (suc k) many else Some k

-- the greatest server outside the view below i: the chain's order is that of the ids (CRAQ, "Chain Replication";
-- that a chain is ordered by ids is this project's rule)
unfoldable pub predecessor : View → ℕ → Option ℕ
predecessor v zero = None
predecessor v (suc k) = if has v k then predecessor v k else Some k

-- the least server outside the view above i, in a chain of n servers
abbrev pub successor : View → ℕ → ℕ → Option ℕ
successor v count i = next_from v (suc i) (count - suc i)

-- the least server outside the view
abbrev pub head : View → ℕ → Option ℕ
head v count = next_from v 0 count

-- the greatest server outside the view
abbrev pub tail : View → ℕ → Option ℕ
tail v count = predecessor v count

-- there is one, and it is this one
abbrev pub is_that : Option ℕ → ℕ → Bool
is_that None i = false
is_that (Some j) i = nat_eq j i

-- both are the same server, or both are none
abbrev pub is_same : Option ℕ → Option ℕ → Bool
is_same None None = true
is_same None (Some j) = false
is_same (Some i) None = false
is_same (Some i) (Some j) = nat_eq i j
