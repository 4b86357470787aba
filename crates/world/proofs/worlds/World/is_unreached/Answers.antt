use Rattle.std.proofs.Common.{◌≡◌, ◌<◌, false, length, sym, rules}
use Rattle.world.specs.Worlds.{link}
use Rattle.world.specs.Links.{is_empty}
use Rattle.world.proofs.bodies.AllBelow.{all_broken}
use Rattle.world.proofs.worlds.World.is_unreached.Goals as goal

-- a link to the server that holds a message breaks the test of all
pub returns-then-not-is_empty : goal.returns-then-not-is_empty
unfolding link
returns-then-not-is_empty c =
    let within : c.loop-i.i < length c.args.self.now.servers = search rules in
    let broken : is_empty (link c.args.self.now c.loop-i.i c.args.j) ≡ false = search rules in
    sym (all_broken (length c.args.self.now.servers) c.loop-i.i (λ i. is_empty (link c.args.self.now i c.args.j))
    within broken)
