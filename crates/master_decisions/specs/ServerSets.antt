-- Sets of servers, as a master's decisions have them (this project's rule).
use Rattle.std.specs.Prelude.{ℕ, nat_lt, bit_xor, Bool, ◌&&◌, if◌then◌else◌}
use Rattle.node.specs.Views.{View, has, single, union}

-- this server is one of these
abbrev pub is_among : View → ℕ → Bool
is_among these i = nat_lt i 16 && has these i

-- these servers without this one
abbrev pub without : View → ℕ → View
without these i = if is_among these i then bit_xor these (single i) else these

-- these servers, and this one, if a chain can have it
abbrev pub and_one : View → ℕ → View
and_one these i = if nat_lt i 16 then union these (single i) else these
