-- The chain of the servers that aren't gone, in the order of their ids (this project's rule).
use Rattle.std.specs.Prelude.{ℕ, zero, suc, nat_eq, nat_lt, Bool, true, false, ◌&&◌, Option, Some, None}
use Rattle.std.specs.Prelude.{if◌then◌else◌}
use Rattle.std.specs.Int.{bit_at}
use Rattle.chain_status.specs.declared.roles.Role.{Role}
use Rattle.chain_status.specs.declared.roles.Role.TheVariants.{Gone, Only, Head, Middle, Tail}

-- the set has this server, which is below 16
abbrev pub has : ℕ → ℕ → Bool
has set i = nat_eq (bit_at set i) 1

-- the set has this server
abbrev pub is_in : ℕ → ℕ → Bool
is_in set i = nat_lt i 16 && has set i

-- the last server below n that isn't gone
unfoldable pub last_below : ℕ → ℕ → Option ℕ
last_below gone zero = None
last_below gone (suc n) = if is_in gone n then last_below gone n else Some n

-- there is one, and it is this one
abbrev pub is_that : Option ℕ → ℕ → Bool
is_that None i = false
is_that (Some j) i = nat_eq j i

-- the role of a server that isn't gone, by the last one before it and by whether it is the last of all
abbrev pub role_between : Option ℕ → Bool → Role
role_between None true = Only
role_between None false = Head
role_between (Some before) true = Tail
role_between (Some before) false = Middle

-- the role of a server of a chain of so many
abbrev pub role_of : ℕ → ℕ → ℕ → Role
role_of gone servers i =
    if is_in gone i then Gone else role_between (last_below gone i) (is_that (last_below gone servers) i)
