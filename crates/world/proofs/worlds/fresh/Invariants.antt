use Rattle.std.proofs.Common.{◌≡◌, map, take}
use Rattle.world.specs.Connections.{fresh}
use Rattle.world.proofs.worlds.fresh.Given as goal

-- so far there is a fresh connection at each of the first homes
abbrev pub invariant-loop-home : goal.invariant-loop-home
invariant-loop-home l = l.connections.items ≡ map fresh (take l.home-index l.homes)
