use Rattle.std.proofs.Common.{sym, ◌∙◌}
use Rattle.world.specs.Connections.{begun}
use Rattle.world.proofs.bodies.ConnectionLists.{served_changed, unserved_kept}
use Rattle.world.proofs.worlds.World.begin.Goals as goal

-- at a connection with a living home the next call begins
pub returns-in_ok-begin-clause-ok : goal.returns-in_ok-begin-clause-ok
returns-in_ok-begin-clause-ok c = served_changed _ _ c.self.view_is c.args.c (λ k. begun k.stage k) _ _
    (sym c.home_lives.ensures ∙ c.if-home_lives.true) c.index_mut.ensures.value c.in_ok-begin.ensures.ok

-- at any other connection nothing happens
pub returns-else-home_lives-clause-ok : goal.returns-else-home_lives-clause-ok
returns-else-home_lives-clause-ok c =
    unserved_kept c.args.self.now c.args.c (λ k. begun k.stage k) (sym c.home_lives.ensures ∙ c.if-home_lives.false)
