use Rattle.std.proofs.Common.{◌≤◌, ◌<◌, ◌^◌, length, arith, rules, ap, subst, ◌∙◌}
use Rattle.world.specs.Scenes.{SceneState}
use Rattle.world.specs.Worlds.{World}
use Rattle.world.specs.Refusals.{with_failures, WouldStep}
use Rattle.world.proofs.shown.ShownConnections.{sent_shown, begun_shown, answered_shown, in_turn_shown, one_open_shown}
use Rattle.world.proofs.shown.ShownConnections.{none_forgotten_shown, taken_count}
use Rattle.world.proofs.failures.FailingRuns.{failing_shown, length-failures}
use Rattle.world.proofs.refusals.run_failing.Goals as goal

-- what is shown is the transcript of the events with the failures in place of refused steps
pub returns-in_ok-transcript-in-Ok-clause-transcript : goal.returns-in_ok-transcript-in-Ok-clause-transcript
returns-in_ok-transcript-in-Ok-clause-transcript c =
    let start = c.into_world-world.ensures ∙ ap (λ (s : SceneState). s.world) c.in_ok-new.ensures.opening in
    let is = failing_shown _ _ start c.args.events.now c.in-Ok.refused.items c.attempt_all.new.self _
    c.in-Ok.ensures.run c.in_ok-transcript-in-Ok.ensures in
    is

-- each named server would have stepped at its event, and lived until then
pub returns-in_ok-transcript-in-Ok-clause-stepped : goal.returns-in_ok-transcript-in-Ok-clause-stepped
returns-in_ok-transcript-in-Ok-clause-stepped c =
    let start = c.into_world-world.ensures ∙ ap (λ (s : SceneState). s.world) c.in_ok-new.ensures.opening in
    λ n p here.
    subst (λ (w : World). WouldStep w c.args.events.now c.in-Ok.refused.items p.0 p.1) start
    (c.in-Ok.ensures.run.stepped n p here)

-- each connection is shown to have been sent the texts of the turns up to its ordinal
pub returns-in_ok-transcript-in-Ok-clause-sent : goal.returns-in_ok-transcript-in-Ok-clause-sent
returns-in_ok-transcript-in-Ok-clause-sent c =
    let start = c.into_world-world.ensures ∙ ap (λ (s : SceneState). s.world) c.in_ok-new.ensures.opening in
    let is = failing_shown _ _ start c.args.events.now c.in-Ok.refused.items c.attempt_all.new.self _
    c.in-Ok.ensures.run c.in_ok-transcript-in-Ok.ensures in
    let events = with_failures c.args.events.now c.in-Ok.refused.items in
    sent_shown c.args.count c.args.homes.now events _ is
    (c.sent_bytes_follow_the_stream.ensures c.args.count c.args.homes.now events)

-- the calls that are shown are the first of the connection's stream
pub returns-in_ok-transcript-in-Ok-clause-calls : goal.returns-in_ok-transcript-in-Ok-clause-calls
returns-in_ok-transcript-in-Ok-clause-calls c =
    let start = c.into_world-world.ensures ∙ ap (λ (s : SceneState). s.world) c.in_ok-new.ensures.opening in
    let is = failing_shown _ _ start c.args.events.now c.in-Ok.refused.items c.attempt_all.new.self _
    c.in-Ok.ensures.run c.in_ok-transcript-in-Ok.ensures in
    let events = with_failures c.args.events.now c.in-Ok.refused.items in
    begun_shown c.args.count c.args.homes.now events _ is
    (c.calls_follow_the_stream.ensures.begun c.args.count c.args.homes.now events)

-- as many have replies as there are calls up to the connection's ordinal
pub returns-in_ok-transcript-in-Ok-clause-answered : goal.returns-in_ok-transcript-in-Ok-clause-answered
returns-in_ok-transcript-in-Ok-clause-answered c =
    let start = c.into_world-world.ensures ∙ ap (λ (s : SceneState). s.world) c.in_ok-new.ensures.opening in
    let is = failing_shown _ _ start c.args.events.now c.in-Ok.refused.items c.attempt_all.new.self _
    c.in-Ok.ensures.run c.in_ok-transcript-in-Ok.ensures in
    let events = with_failures c.args.events.now c.in-Ok.refused.items in
    answered_shown c.args.count c.args.homes.now events _ is
    (c.calls_follow_the_stream.ensures.answered c.args.count c.args.homes.now events)

-- the calls that are shown with a reply are the first of their connection
pub returns-in_ok-transcript-in-Ok-clause-in_turn : goal.returns-in_ok-transcript-in-Ok-clause-in_turn
returns-in_ok-transcript-in-Ok-clause-in_turn c =
    let start = c.into_world-world.ensures ∙ ap (λ (s : SceneState). s.world) c.in_ok-new.ensures.opening in
    let is = failing_shown _ _ start c.args.events.now c.in-Ok.refused.items c.attempt_all.new.self _
    c.in-Ok.ensures.run c.in_ok-transcript-in-Ok.ensures in
    let events = with_failures c.args.events.now c.in-Ok.refused.items in
    in_turn_shown c.args.count c.args.homes.now events _ is

-- at most one call of a connection is shown without a reply
pub returns-in_ok-transcript-in-Ok-clause-one_open : goal.returns-in_ok-transcript-in-Ok-clause-one_open
returns-in_ok-transcript-in-Ok-clause-one_open c =
    let start = c.into_world-world.ensures ∙ ap (λ (s : SceneState). s.world) c.in_ok-new.ensures.opening in
    let is = failing_shown _ _ start c.args.events.now c.in-Ok.refused.items c.attempt_all.new.self _
    c.in-Ok.ensures.run c.in_ok-transcript-in-Ok.ensures in
    let events = with_failures c.args.events.now c.in-Ok.refused.items in
    one_open_shown c.args.count c.args.homes.now events _ is
    (c.one_open.ensures c.args.count c.args.homes.now events)

-- if nothing waits, each call that is shown at a living home has its reply
pub returns-in_ok-transcript-in-Ok-clause-none_forgotten : goal.returns-in_ok-transcript-in-Ok-clause-none_forgotten
returns-in_ok-transcript-in-Ok-clause-none_forgotten c =
    let start = c.into_world-world.ensures ∙ ap (λ (s : SceneState). s.world) c.in_ok-new.ensures.opening in
    let is = failing_shown _ _ start c.args.events.now c.in-Ok.refused.items c.attempt_all.new.self _
    c.in-Ok.ensures.run c.in_ok-transcript-in-Ok.ensures in
    let events = with_failures c.args.events.now c.in-Ok.refused.items in
    let all : length c.args.events.now < 2 ^ 64 = search rules in
    let short : length events < 2 ^ 64 = omega
    (arith, all, length-failures c.args.events.now c.in-Ok.refused.items) in
    let few : c.args.count ≤ 16 =
    taken_count c.args.count (λ refused. let e = c.in_ok-new.ensures.bad_count.1 refused in cc) in
    none_forgotten_shown c.args.count c.args.homes.now events _ is
    (c.none_forgotten.ensures c.args.count c.args.homes.now events few short)
