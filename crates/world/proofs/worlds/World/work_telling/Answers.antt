use Rattle.std.proofs.Common.{◌≡◌, sym, ◌∙◌, ap, subst, true, OnOk, IfOk, Some, None}
use Rattle.std.specs.Prelude.{slice_get}
use Rattle.world.specs.declared.event_effects.EventEffect.{EventEffect}
use Rattle.world.specs.Connections.{to_work, asked}
use Rattle.world.specs.Worlds.{World, home_lives}
use Rattle.world.specs.EventEffects.{call_event_effect}
use Rattle.world.proofs.bodies.ConnectionLists.{call_worked, none_worked}
use Rattle.world.proofs.bodies.EventEffectLaws.{served_work, called_event_effect}
use Rattle.world.proofs.worlds.World.work_telling.Goals as goal

-- the begun call goes to its server, and what that puts out goes its ways
pub returns-in-Some-clause-ok : goal.returns-in-Some-clause-ok
returns-in-Some-clause-ok c =
    let served : home_lives c.args.self.now (slice_get c.args.self.now.connections c.args.c) ≡ true =
    sym c.home_lives.ensures ∙ c.if-not-home_lives.false in
    let old = c.index_mut-connection.result.now in
    let call_is : Some c.in-Some.call ≡ to_work old.stage old = sym c.in-Some.is ∙ c.in_ok-call.ensures.call in
    let asked_is : c.ask_telling.new.self ≡ asked old = rw c.in-Some.is at c.in_ok-call.ensures.stage in
    subst (λ (x : World). OnOk c.take_telling.result (c.take_telling.new.self ≡ x))
    (call_worked _ _ c.self.view_is c.args.c c.home-home.result old c.ask_telling.new.self c.in-Some.call served
    c.index_mut-connection.ensures.value c.home-home.ensures call_is asked_is) c.take_telling.ensures.ok

-- what the server made of the call is told
pub returns-in-Some-clause-event_effect : goal.returns-in-Some-clause-event_effect
returns-in-Some-clause-event_effect c =
    let served : home_lives c.args.self.now (slice_get c.args.self.now.connections c.args.c) ≡ true =
    sym c.home_lives.ensures ∙ c.if-not-home_lives.false in
    let old = c.index_mut-connection.result.now in
    let call_is : Some c.in-Some.call ≡ to_work old.stage old = sym c.in-Some.is ∙ c.in_ok-call.ensures.call in
    subst (λ (x : EventEffect). IfOk c.take_telling.result (λ event_effect. event_effect ≡ x))
    (called_event_effect _ _ c.self.view_is c.args.c c.home-home.result old c.in-Some.call _ served
    c.index_mut-connection.ensures.value c.home-home.ensures call_is) c.take_telling.ensures.event_effect

-- if no call was begun, nothing happens
pub returns-in-None-clause-ok : goal.returns-in-None-clause-ok
returns-in-None-clause-ok c =
    let served : home_lives c.args.self.now (slice_get c.args.self.now.connections c.args.c) ≡ true =
    sym c.home_lives.ensures ∙ c.if-not-home_lives.false in
    let old = c.index_mut-connection.result.now in
    let none : None ≡ to_work old.stage old = sym c.in-None.is ∙ c.in_ok-call.ensures.call in
    let kept : c.ask_telling.new.self ≡ old = rw c.in-None.is at c.in_ok-call.ensures.stage in
    none_worked _ _ c.self.view_is c.args.c old c.ask_telling.new.self served
    c.index_mut-connection.ensures.value none kept

-- if no call was begun, it is told that nothing was done
pub returns-in-None-clause-event_effect : goal.returns-in-None-clause-event_effect
returns-in-None-clause-event_effect c =
    let served : home_lives c.args.self.now (slice_get c.args.self.now.connections c.args.c) ≡ true =
    sym c.home_lives.ensures ∙ c.if-not-home_lives.false in
    let old = c.index_mut-connection.result.now in
    let none : None ≡ to_work old.stage old = sym c.in-None.is ∙ c.in_ok-call.ensures.call in
    ap (call_event_effect c.args.self.now c.args.c old.home) none
    ∙ sym (served_work _ _ c.self.view_is c.args.c old served c.index_mut-connection.ensures.value)
