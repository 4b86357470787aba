use Rattle.std.proofs.Common.{◌≤◌, ◌<◌, ◌^◌, length, arith, rules, ap, ◌∙◌}
use Rattle.world.specs.Shown.{reply_shown}
use Rattle.world.proofs.shown.ShownConnections.{sent_shown, begun_shown, answered_shown, in_turn_shown, one_open_shown}
use Rattle.world.proofs.shown.ShownConnections.{none_forgotten_shown, run_shown, taken_count}
use Rattle.world.proofs.scenes.run.Goals as goal

-- what is shown of a call is the reply that it got
pub returns-clause-shown : goal.returns-clause-shown
returns-clause-shown c =
    let all : length c.args.events.now ≤ c.loop-event.event-index = omega (arith, c.loop-event-test.false) in
    let is =
    run_shown c.loop-event.scene.world _ c.args.events.now c.loop-event.event-index _ c.loop-event.invariant.rest all
    c.in_ok-transcript.ensures in
    λ x.
    ap (λ t. reply_shown t x) is
    ∙ c.transcripts_show_the_calls.ensures.reply c.args.count c.args.homes.now c.args.events.now x

-- each connection is shown to have been sent the texts of the turns up to its ordinal
pub returns-clause-sent : goal.returns-clause-sent
returns-clause-sent c =
    let all : length c.args.events.now ≤ c.loop-event.event-index = omega (arith, c.loop-event-test.false) in
    let is =
    run_shown c.loop-event.scene.world _ c.args.events.now c.loop-event.event-index _ c.loop-event.invariant.rest all
    c.in_ok-transcript.ensures in
    sent_shown c.args.count c.args.homes.now c.args.events.now _ is
    (c.sent_bytes_follow_the_stream.ensures c.args.count c.args.homes.now c.args.events.now)

-- the calls that are shown are the first of the connection's stream
pub returns-clause-calls : goal.returns-clause-calls
returns-clause-calls c =
    let all : length c.args.events.now ≤ c.loop-event.event-index = omega (arith, c.loop-event-test.false) in
    let is =
    run_shown c.loop-event.scene.world _ c.args.events.now c.loop-event.event-index _ c.loop-event.invariant.rest all
    c.in_ok-transcript.ensures in
    begun_shown c.args.count c.args.homes.now c.args.events.now _ is
    (c.calls_follow_the_stream.ensures.begun c.args.count c.args.homes.now c.args.events.now)

-- as many have replies as there are calls up to the connection's ordinal
pub returns-clause-answered : goal.returns-clause-answered
returns-clause-answered c =
    let all : length c.args.events.now ≤ c.loop-event.event-index = omega (arith, c.loop-event-test.false) in
    let is =
    run_shown c.loop-event.scene.world _ c.args.events.now c.loop-event.event-index _ c.loop-event.invariant.rest all
    c.in_ok-transcript.ensures in
    answered_shown c.args.count c.args.homes.now c.args.events.now _ is
    (c.calls_follow_the_stream.ensures.answered c.args.count c.args.homes.now c.args.events.now)

-- the calls that are shown with a reply are the first of their connection
pub returns-clause-in_turn : goal.returns-clause-in_turn
returns-clause-in_turn c =
    let all : length c.args.events.now ≤ c.loop-event.event-index = omega (arith, c.loop-event-test.false) in
    let is =
    run_shown c.loop-event.scene.world _ c.args.events.now c.loop-event.event-index _ c.loop-event.invariant.rest all
    c.in_ok-transcript.ensures in
    in_turn_shown c.args.count c.args.homes.now c.args.events.now _ is

-- at most one call of a connection is shown without a reply
pub returns-clause-one_open : goal.returns-clause-one_open
returns-clause-one_open c =
    let all : length c.args.events.now ≤ c.loop-event.event-index = omega (arith, c.loop-event-test.false) in
    let is =
    run_shown c.loop-event.scene.world _ c.args.events.now c.loop-event.event-index _ c.loop-event.invariant.rest all
    c.in_ok-transcript.ensures in
    one_open_shown c.args.count c.args.homes.now c.args.events.now _ is
    (c.one_open.ensures c.args.count c.args.homes.now c.args.events.now)

-- if nothing waits, each call that is shown at a living home has its reply
pub returns-clause-none_forgotten : goal.returns-clause-none_forgotten
returns-clause-none_forgotten c =
    let all : length c.args.events.now ≤ c.loop-event.event-index = omega (arith, c.loop-event-test.false) in
    let is =
    run_shown c.loop-event.scene.world _ c.args.events.now c.loop-event.event-index _ c.loop-event.invariant.rest all
    c.in_ok-transcript.ensures in
    let short : length c.args.events.now < 2 ^ 64 = search rules in
    let few : c.args.count ≤ 16 =
    taken_count c.args.count (λ refused. let e = c.in_ok-scene.ensures.bad_count.1 refused in cc) in
    none_forgotten_shown c.args.count c.args.homes.now c.args.events.now _ is
    (c.none_forgotten.ensures c.args.count c.args.homes.now c.args.events.now few short)
