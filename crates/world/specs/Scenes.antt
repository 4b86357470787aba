-- Scenes: a world, and whether an event in it was refused.
use Rattle.std.specs.Prelude.{ℕ, Bool, false, ◌&&◌, nat_le, nat_lt, List, [], length, Option, None, Some}
use Rattle.std.specs.List.{list_all}
use Rattle.world.specs.Connections.{Connection}
use Rattle.world.specs.Worlds.{World}

-- A scene: its world, and whether an event in it was refused.
pub record SceneState : Type 0 where
  pub world : World
  pub spoiled : Bool

-- a scene of this world in which no event was refused
abbrev pub going : World → SceneState
going w = record { world = w; spoiled = false }

-- a chain has 1 to 16 servers
abbrev pub is_count : ℕ → Bool
is_count count = nat_le 1 count && nat_le count 16

-- at most 64 homes, each the number of a server
abbrev pub are_homes : ℕ → List ℕ → Bool
are_homes count homes = nat_le (length homes) 64 && list_all (λ home. nat_lt home count) homes

-- what this connection was sent, if there is one
abbrev pub sent_to : Option Connection → List ℕ
sent_to None = []
sent_to (Some k) = k.session.out
