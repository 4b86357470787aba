use Rattle.std.proofs.Common.{◌≡◌, true, not, ◌||◌}
use Rattle.world.specs.Worlds.{lives}
use Rattle.world.specs.Quiet.{all_below, is_server_quiet}
use Rattle.world.proofs.worlds.World.are_servers_quiet.Given as goal

-- so far each server that lives is quiet
abbrev pub invariant-loop-j : goal.invariant-loop-j
invariant-loop-j l = all_below l.j (λ j. not (lives l.self j) || is_server_quiet l.self j) ≡ true
