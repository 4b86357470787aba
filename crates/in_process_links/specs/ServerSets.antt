-- Sets of servers, which have ids below 32.
use Rattle.std.specs.Prelude.{◌≡◌, ◌<◌, ◌+◌, ◌-◌, ◌%◌, ◌==◌, ◌&&◌, ℕ, Bool, true, not}
use Rattle.std.specs.Int.{bit_at}
use Rattle.in_process_links.specs.declared.server_sets.ServerSet.{ServerSet}

-- whether a set has a server
unfoldable pub has_server : ServerSet → ℕ → Bool
has_server set id = bit_at set.bits id == 1

-- how many ids lie between the one after `last` and this one, if after the highest id comes the lowest
abbrev pub steps_after : ℕ → ℕ → ℕ
steps_after last id = (id + 32 - (last + 1) % 32) % 32

-- A set without one of its servers.
pub record IsWithout (id : ℕ) (before after : ServerSet) : Type 0 where
  pub server : id < 32
  pub had : has_server before id ≡ true
  pub left : (j : ℕ) → has_server after j ≡ (not (j == id) && has_server before j)

-- a number's lowest bit
abbrev pub IsLowest : ℕ → ℕ → Type 0
IsLowest n k = (k < 32) × (bit_at n k ≡ 1) × ((j : ℕ) → j < k → bit_at n j ≡ 0)
