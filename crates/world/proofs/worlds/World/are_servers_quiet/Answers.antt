use Rattle.std.proofs.Common.{◌≡◌, ◌<◌, false, not, ◌||◌, length, sym, rules}
use Rattle.world.specs.Worlds.{lives}
use Rattle.world.specs.Quiet.{is_server_quiet}
use Rattle.world.proofs.bodies.AllBelow.{all_broken}
use Rattle.world.proofs.worlds.World.are_servers_quiet.Goals as goal

-- a living server that isn't quiet breaks the test of all
pub returns-then-not-is_server_quiet : goal.returns-then-not-is_server_quiet
returns-then-not-is_server_quiet c =
    let within : c.loop-j.j < length c.args.self.now.servers = search rules in
    let broken : (not (lives c.args.self.now c.loop-j.j) || is_server_quiet c.args.self.now c.loop-j.j) ≡ false =
    search rules in
    sym (all_broken (length c.args.self.now.servers) c.loop-j.j
    (λ j. not (lives c.args.self.now j) || is_server_quiet c.args.self.now j) within broken)
