-- Sets of servers: server i is the bit of value 2^i.
use Rattle.std.specs.Prelude.{ℕ, bit_and, Bool, nat_eq}
use Rattle.std.specs.Int.{bit_at}

-- the set has this server
abbrev pub has : ℕ → ℕ → Bool
has set i = nat_eq (bit_at set i) 1

-- no server is in both sets
abbrev pub is_apart : ℕ → ℕ → Bool
is_apart one other = nat_eq (bit_and one other) 0

-- the first set has all of the second one
abbrev pub has_all : ℕ → ℕ → Bool
has_all set all = nat_eq (bit_and set all) all
