use Rattle.node.specs.Steps.{step}
use Rattle.world.proofs.bodies.ServerLists.{server_stepped}
use Rattle.world.proofs.servers.Servers.step_logged.Goals as goal

-- the server is what its step made of it, and the others stay
pub returns-in-Ok-clause-state : goal.returns-in-Ok-clause-state
returns-in-Ok-clause-state c =
    server_stepped (λ s. (step s c.args.input).state) c.self.inside.nodes.items c.args.self.now c.args.i
    c.index_mut.result.now c.step_logged.new.self c.requires.server c.self.view_is c.index_mut.ensures.value
    c.in-Ok.ensures.state
