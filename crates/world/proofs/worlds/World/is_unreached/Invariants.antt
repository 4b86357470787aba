use Rattle.std.proofs.Common.{◌≡◌, true}
use Rattle.world.specs.Worlds.{link}
use Rattle.world.specs.Links.{is_empty}
use Rattle.world.specs.Quiet.{all_below}
use Rattle.world.proofs.worlds.World.is_unreached.Given as goal

-- so far no link to the server holds a message
abbrev pub invariant-loop-i : goal.invariant-loop-i
invariant-loop-i l = all_below l.i (λ i. is_empty (link l.self i l.j)) ≡ true
