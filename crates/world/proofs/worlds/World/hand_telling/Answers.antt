use Rattle.std.proofs.Common.{sym, ◌∙◌}
use Rattle.world.specs.Connections.{handed}
use Rattle.world.specs.EventEffects.{hand_event_effect}
use Rattle.world.proofs.bodies.ConnectionLists.{served_changed, unserved_kept}
use Rattle.world.proofs.bodies.EventEffectLaws.{served_event_effect}
use Rattle.world.proofs.worlds.World.hand_telling.Goals as goal

-- at a connection with a living home the waiting reply is handed over
pub returns-then-home_lives-clause-ok : goal.returns-then-home_lives-clause-ok
returns-then-home_lives-clause-ok c = served_changed _ _ c.self.view_is c.args.c (λ k. handed k.stage k) _ _
    (sym c.home_lives.ensures ∙ c.if-home_lives.true) c.index_mut.ensures.value c.in_ok-event_effect.ensures.ok

-- what a hand at a living home did is told
pub returns-then-home_lives-clause-event_effect : goal.returns-then-home_lives-clause-event_effect
returns-then-home_lives-clause-event_effect c =
    c.in_ok-event_effect.ensures.event_effect ∙ served_event_effect _ _ c.self.view_is c.args.c
    (λ k. hand_event_effect k.stage k) _ (sym c.home_lives.ensures ∙ c.if-home_lives.true) c.index_mut.ensures.value

-- at any other connection nothing happens
pub returns-clause-ok : goal.returns-clause-ok
returns-clause-ok c =
    unserved_kept c.args.self.now c.args.c (λ k. handed k.stage k) (sym c.home_lives.ensures ∙ c.if-home_lives.false)
