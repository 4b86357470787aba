use Rattle.std.proofs.Common.{sym, ◌∙◌}
use Rattle.world.specs.Connections.{came}
use Rattle.world.proofs.bodies.ConnectionLists.{served_changed, unserved_kept}
use Rattle.world.proofs.worlds.World.piece.Goals as goal

-- at a connection with a living home the bytes come
pub returns-in_ok-come-clause-ok : goal.returns-in_ok-come-clause-ok
returns-in_ok-come-clause-ok c = served_changed _ _ c.self.view_is c.args.c (came c.args.bytes.now) _ _
    (sym c.home_lives.ensures ∙ c.if-home_lives.true) c.index_mut.ensures.value c.in_ok-come.ensures.ok

-- at any other connection nothing happens
pub returns-else-home_lives-clause-ok : goal.returns-else-home_lives-clause-ok
returns-else-home_lives-clause-ok c =
    unserved_kept c.args.self.now c.args.c (came c.args.bytes.now) (sym c.home_lives.ensures ∙ c.if-home_lives.false)
