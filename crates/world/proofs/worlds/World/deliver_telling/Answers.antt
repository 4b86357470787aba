use Rattle.std.proofs.Common.{◌≡◌, sym, ◌∙◌, subst, true, OnOk, IfOk}
use Rattle.world.specs.declared.event_effects.EventEffect.{EventEffect}
use Rattle.world.specs.Worlds.{World, lives}
use Rattle.world.proofs.bodies.LinkLists.{message_delivered, none_delivered}
use Rattle.world.proofs.bodies.EventEffectLaws.{message_event_effect, no_message_event_effect}
use Rattle.world.proofs.worlds.World.deliver_telling.Goals as goal

-- the first message of the link is given to the server
pub returns-in-Some-clause-ok : goal.returns-in-Some-clause-ok
returns-in-Some-clause-ok c =
    let alive : lives c.args.self.now c.args.j ≡ true = sym c.lives.ensures.lives ∙ c.if-not-lives.false in
    subst (λ (x : World). OnOk c.take_telling.result (c.take_telling.new.self ≡ x))
    (message_delivered _ _ c.self.view_is c.args.i c.args.j c.in-Some.message c.pop.new.self alive
    c.in-Some.ensures.first c.in-Some.ensures.rest) c.take_telling.ensures.ok

-- what the server made of the message is told
pub returns-in-Some-clause-event_effect : goal.returns-in-Some-clause-event_effect
returns-in-Some-clause-event_effect c =
    let alive : lives c.args.self.now c.args.j ≡ true = sym c.lives.ensures.lives ∙ c.if-not-lives.false in
    subst (λ (x : EventEffect). IfOk c.take_telling.result (λ event_effect. event_effect ≡ x))
    (message_event_effect _ _ c.self.view_is c.args.i c.args.j c.in-Some.message _ alive c.in-Some.ensures.first)
    c.take_telling.ensures.event_effect

-- from a link without messages nothing is delivered
pub returns-in-None-clause-ok : goal.returns-in-None-clause-ok
returns-in-None-clause-ok c =
    none_delivered _ _ c.self.view_is c.args.i c.args.j c.pop.new.self c.in-None.ensures.first c.in-None.ensures.rest

-- of a link without messages it is told that nothing was done
pub returns-in-None-clause-event_effect : goal.returns-in-None-clause-event_effect
returns-in-None-clause-event_effect c =
    no_message_event_effect _ _ c.self.view_is c.args.i c.args.j c.in-None.ensures.first
