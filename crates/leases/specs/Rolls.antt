-- The master's side: who has entered its epoch, as far as that matters to one server.
use Rattle.std.specs.Prelude.{ℕ, bit_or, Bool, if◌then◌else◌}
use Rattle.leases.specs.Sets.{is_apart, has_all}

-- What a master knows of the others, for one server that is in its epoch. Server i is the bit of value 2^i.
pub record RollState : Type 0 where
  -- the server itself
  pub own : ℕ
  -- the other servers of the chain
  pub others : ℕ
  -- those that have entered the epoch, and didn't know then that this one is gone
  pub entered : ℕ
  -- those that this one knew to be gone while its lease held
  pub known : ℕ

-- nobody has entered
abbrev pub unentered : ℕ → ℕ → RollState
unentered own others = record { own = own; others = others; entered = 0; known = 0 }

-- another server has entered, which knew these to be gone
abbrev pub enters : RollState → ℕ → ℕ → RollState
enters roll other gone =
    if is_apart gone roll.own then record roll { entered = bit_or roll.entered other } else roll

-- this one knew these to be gone while its lease held
abbrev pub knows : RollState → ℕ → RollState
knows roll known = record roll { known = bit_or roll.known known }

-- the epoch is whole for it
abbrev pub is_whole : RollState → Bool
is_whole roll = has_all (bit_or roll.entered roll.known) roll.others
