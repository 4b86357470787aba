use Rattle.std.proofs.Common.{arith, ap, length, ◌∙◌}
use Rattle.std.proofs.lemmas.List.{length-map}
use Rattle.node.specs.Steps.{step}
use Rattle.world.proofs.bodies.ServerLists.{server_stepped, server_lost}
use Rattle.world.proofs.servers.Servers.step.Goals as goal

-- the server is what its step made of it, and the others stay
pub returns-in-Ok-clause-state : goal.returns-in-Ok-clause-state
returns-in-Ok-clause-state c =
    server_stepped (λ s. (step s c.args.input).state) c.self.inside.nodes.items c.args.self.now c.args.i
    c.index_mut.result.now c.step.new.self c.requires.server c.self.view_is c.index_mut.ensures.value
    c.in-Ok.ensures.state

-- if memory runs out, the server is as before any input, and the others stay
pub returns-in-Err-Memory-clause-err : goal.returns-in-Err-Memory-clause-err
returns-in-Err-Memory-clause-err c =
    let nodes = c.self.inside.nodes.items in
    server_lost nodes c.args.self.now c.args.i _ c.step.new.self c.replace.new.dest c.self.view_is
    (omega (arith, simp length-map at (ap length c.self.view_is)))
    (c.replace.ensures.after ∙ c.opening_node-opening.ensures)
