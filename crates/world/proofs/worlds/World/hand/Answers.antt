use Rattle.std.proofs.Common.{sym, ◌∙◌}
use Rattle.world.specs.Connections.{handed}
use Rattle.world.proofs.bodies.ConnectionLists.{served_changed, unserved_kept}
use Rattle.world.proofs.worlds.World.hand.Goals as goal

-- at a connection with a living home the waiting reply is handed over
pub returns-in_ok-hand-clause-ok : goal.returns-in_ok-hand-clause-ok
returns-in_ok-hand-clause-ok c = served_changed _ _ c.self.view_is c.args.c (λ k. handed k.stage k) _ _
    (sym c.home_lives.ensures ∙ c.if-home_lives.true) c.index_mut.ensures.value c.in_ok-hand.ensures.ok

-- at any other connection nothing happens
pub returns-else-home_lives-clause-ok : goal.returns-else-home_lives-clause-ok
returns-else-home_lives-clause-ok c =
    unserved_kept c.args.self.now c.args.c (λ k. handed k.stage k) (sym c.home_lives.ensures ∙ c.if-home_lives.false)
