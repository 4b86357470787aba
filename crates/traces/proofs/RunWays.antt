-- A run puts things on ways of its picture alone: so each of them has one arrow.
use Rattle.std.proofs.Common.{◌≡◌, ℕ, ◌<◌, ◌≤◌, true, ◌&&◌, List, [], ◌∷◌, ◌++◌, length, Option, Some, None, refl, ap}
use Rattle.std.proofs.Common.{sym, ◌∙◌, subst, arith}
use Rattle.std.specs.Prelude.{map, slice_get, IsPermutation}
use Rattle.std.specs.List.{AllByRecursion}
use Rattle.std.proofs.lemmas.Bool.{and_parts, cond_both}
use Rattle.std.proofs.lemmas.List.{take_all}
use Rattle.table.specs.declared.operations.Call.{Call}
use Rattle.node.specs.declared.messages.Peer.{Peer}
use Rattle.node.specs.declared.messages.Input.{Input}
use Rattle.node.specs.declared.messages.Input.TheVariants.{Call as Called, From, Gone}
use Rattle.node.specs.declared.messages.Output.{Output}
use Rattle.node.specs.declared.messages.Output.TheVariants.{To, Reply as Answered}
use Rattle.node.specs.Lawful.{IsLawful, AreToOthers}
use Rattle.node.specs.Steps.{step}
use Rattle.node.proofs.Addresses.{others_taken_in}
use Rattle.world.specs.declared.connections.Stage.{Stage}
use Rattle.world.specs.declared.connections.Stage.TheVariants.{Idle, Begun, Asked, Replied}
use Rattle.world.specs.declared.event_effects.EventEffect.{EventEffect}
use Rattle.world.specs.declared.event_effects.EventEffect.TheVariants.{Nothing, Came, Failed}
use Rattle.world.specs.declared.events.Event.{Event}
use Rattle.world.specs.declared.events.Event.TheVariants.{Piece, Begin, Work, Deliver, Fail, Tell, Hand}
use Rattle.world.specs.Awaited.{AreAwaited}
use Rattle.world.specs.Connections.{Connection, to_work, asked, replied, changed_at}
use Rattle.world.specs.EventEffects.{piece_event_effect, begin_event_effect, hand_event_effect, event_effect_at, took}
use Rattle.world.specs.EventEffects.{call_event_effect, work_event_effect, deliver_event_effect}
use Rattle.world.specs.EventEffects.{event_effect, event_effects_from, event_effects_of, trace_of}
use Rattle.world.specs.Worlds.{World, server, link, with_connection, opening_world, lives, has_failed, happens, run_of}
use Rattle.world.proofs.trace.Traces.{Traced, count}
use Rattle.world.proofs.trace.IdLaws.{living_parts}
use Rattle.world.proofs.trace.Outsets.{count_outset}
use Rattle.world.proofs.moments.Moments.{run-append}
use Rattle.world.proofs.order.OneOrder.{all}
use Rattle.world.proofs.shown.Awaiting.{works_awaited, delivers_awaited, tells_awaited}
use Rattle.traces.specs.Crossings.{call_put, output_put, puts_by, puts_from, puts_of, row_after}
use Rattle.traces.specs.Arrows.{IsOnWay, arrows_of}
use Rattle.traces.proofs.KeptHomes.{homes_of, home_at, fresh_homes, changed_homes, connection_homes, replied_home}
use Rattle.traces.proofs.KeptHomes.{run_homes}
use Rattle.traces.proofs.WayLaws.{each_has_one}

-- ---- one server's outputs

all_append : {X : Type 0} (P : X → Type 0) (xs ys : List X)
    → AllByRecursion P xs
    → AllByRecursion P ys
    → AllByRecursion P (xs ++ ys)
all_append P [] ys first more = more
all_append P (x ∷ xs) ys first more = (first.0, all_append P xs ys first.1 more)

outputs_on : (n : ℕ) (homes : List ℕ) (row i id : ℕ) (ks : List Connection) (os : List Output)
    → homes_of ks ≡ homes
    → i < n
    → AreAwaited ks i os
    → AreToOthers id n os
    → AllByRecursion (IsOnWay n homes) (map (output_put row i) os)
outputs_on n homes row i id ks [] same low awaited others = tt
outputs_on n homes row i id ks (To j peer ∷ os) same low awaited others =
    ((low, others.0.0), outputs_on n homes row i id ks os same low awaited others.1)
outputs_on n homes row i id ks (Answered c reply ∷ os) same low awaited others =
    let here = home_at ks c awaited.0.connection awaited.0.here in (
      subst (λ hs. slice_get hs c ≡ Some i) same
          (subst (λ h. slice_get (homes_of ks) c ≡ Some h) awaited.0.home here),
      outputs_on n homes row i id (changed_at ks c (λ k. replied k.stage reply k)) os
          (changed_homes ks c (λ k. replied k.stage reply k) (λ k. replied_home k.stage reply k) ∙ same) low awaited.1
          others.1,
    )

-- ---- an event of a run

module _ (n : ℕ) (homes : List ℕ) (few : n ≤ 16) (events : List Event) where
  abbrev now : World
  now = run_of n homes events

  abbrev last : Traced
  last = (all n homes events few).at (length events)

  is_now : last.world ≡ now
  is_now = (all n homes events few).world (length events)
      ∙ ap (run_of n homes) (take_all (length events) events (omega arith))

  last_count : count last ≡ n
  last_count = ((all n homes events few).goes 0 (length events) (omega arith) None).later.count
      ∙ ap count (all n homes events few).start ∙ count_outset n homes

  abbrev IsPlaced : World → Type 0
  IsPlaced w = (i : ℕ) → lives w i ≡ true
      → (i < n) × ((server w i).count ≡ n) × IsLawful (server w i)

  -- a living server is one of the chain, and lawful
  placed : IsPlaced now
  placed = subst IsPlaced is_now (λ i living.
      let low : i < count last = (living_parts last.world i living).0 in (
        subst (λ m. i < m) last_count low,
        ((all n homes events few).lawful (length events)).framed.chain i low ∙ last_count,
        (all n homes events few).all (length events) i low,
      ))

  now_homes : homes_of now.connections ≡ homes
  now_homes = run_homes (opening_world n homes) events ∙ fresh_homes homes

  -- what an effect puts is on ways
  abbrev On : ℕ → EventEffect → Type 0
  On row d = AllByRecursion (IsOnWay n homes) (puts_by row d)

  others : (i : ℕ) (input : Input)
      → lives now i ≡ true
      → AreToOthers (server now i).id n (step (server now i) input).outputs
  others i input living =
      let p = placed i living in
      subst (λ m. AreToOthers (server now i).id m (step (server now i) input).outputs) p.1
      (others_taken_in (server now i) input p.2.sound p.2.settled)

  took_on : (row i : ℕ) (input : Input) (ks : List Connection)
      → homes_of ks ≡ homes
      → lives now i ≡ true
      → AllByRecursion (IsOnWay n homes) (call_put row i input)
      → AreAwaited ks i (step (server now i) input).outputs
      → On row (took now i input)
  unfolding puts_by
  took_on row i input ks same living called awaited =
      all_append (IsOnWay n homes) (call_put row i input) (map (output_put row i) (step (server now i) input).outputs)
      called
      (outputs_on n homes row i (server now i).id ks (step (server now i) input).outputs same (placed i living).0
      awaited (others i input living))

  nothing_on : (row : ℕ) → On row Nothing
  unfolding puts_by
  nothing_on row = tt

  piece_on : (row : ℕ) (k : Connection) → On row (piece_event_effect k)
  unfolding puts_by
  piece_on row k = cond_both k.session.closed Nothing Came (On row) (λ t. tt) (λ f. tt)

  begin_on : (row : ℕ) (s : Stage) (k : Connection) → On row (begin_event_effect s k)
  unfolding puts_by
  begin_on row Idle k = tt
  begin_on row Begun k = tt
  begin_on row Asked k = tt
  begin_on row (Replied reply) k = tt

  hand_on : (row : ℕ) (s : Stage) (k : Connection) → On row (hand_event_effect s k)
  unfolding puts_by
  hand_on row Idle k = tt
  hand_on row Begun k = tt
  hand_on row Asked k = tt
  hand_on row (Replied reply) k = tt

  fail_on : (row i : ℕ) → On row (event_effect now (Fail i))
  unfolding puts_by
  fail_on row i = cond_both (lives now i) Failed Nothing (On row) (λ t. tt) (λ f. tt)

  there_on : (row : ℕ) (does : Connection → EventEffect) (o : Option Connection)
      → ((k : Connection) → On row (does k))
      → On row (event_effect_at now does o)
  there_on row does None each = nothing_on row
  there_on row does (Some k) each =
      cond_both (lives now k.home) (does k) Nothing (On row) (λ t. each k) (λ f. nothing_on row)

  -- a call goes from its connection to its home
  call_on : (row c : ℕ) (k : Connection) (o : Option Call)
      → slice_get now.connections c ≡ Some k
      → lives now k.home ≡ true
      → to_work k.stage k ≡ o
      → On row (call_event_effect now c k.home o)
  unfolding with_connection server
  call_on row c k None here living work = nothing_on row
  call_on row c k (Some call) here living work =
      took_on row k.home (Called c call) (with_connection now c asked).connections
      (connection_homes now c asked (λ l. refl) ∙ now_homes) living
      (subst (λ hs. slice_get hs c ≡ Some k.home) now_homes (home_at now.connections c k here), tt)
      (works_awaited n homes events few c k call here living work)

  work_on : (row c : ℕ) (o : Option Connection) → slice_get now.connections c ≡ o → On row (work_event_effect now c o)
  work_on row c None here = nothing_on row
  work_on row c (Some k) here =
      cond_both (lives now k.home) (call_event_effect now c k.home (to_work k.stage k)) Nothing (On row)
      (λ living. call_on row c k (to_work k.stage k) here living refl) (λ f. nothing_on row)

  deliver_on : (row i j : ℕ) (ms : List Peer) → link now i j ≡ ms → On row (deliver_event_effect now i j ms)
  deliver_on row i j [] here = nothing_on row
  deliver_on row i j (m ∷ ms) here =
      cond_both (lives now j) (took now j (From i m)) Nothing (On row)
      (λ living. took_on row j (From i m) now.connections now_homes living tt
      (delivers_awaited n homes events few i j m ms here living))
      (λ f. nothing_on row)

  tell_on : (row i j : ℕ) → On row (event_effect now (Tell i j))
  tell_on row i j =
      cond_both (lives now i && has_failed now j) (took now i (Gone j)) Nothing (On row)
      (λ both.
      let p = and_parts (lives now i) (has_failed now j) both in
      took_on row i (Gone j) now.connections now_homes p.0 tt (tells_awaited n homes events few i j p.0 p.1))
      (λ f. nothing_on row)

  event_effect_on : (row : ℕ) (e : Event) → On row (event_effect now e)
  event_effect_on row (Piece c bytes) = there_on row piece_event_effect (slice_get now.connections c) (piece_on row)
  event_effect_on row (Begin c) =
      there_on row (λ k. begin_event_effect k.stage k) (slice_get now.connections c) (λ k. begin_on row k.stage k)
  event_effect_on row (Work c) = work_on row c (slice_get now.connections c) refl
  event_effect_on row (Deliver i j) = deliver_on row i j (link now i j) refl
  event_effect_on row (Fail i) = fail_on row i
  event_effect_on row (Tell i j) = tell_on row i j
  event_effect_on row (Hand c) =
      there_on row (λ k. hand_event_effect k.stage k) (slice_get now.connections c) (λ k. hand_on row k.stage k)

-- ---- a run

after_one : (n : ℕ) (homes : List ℕ) (before : List Event) (e : Event)
    → run_of n homes (before ++ e ∷ []) ≡ happens (run_of n homes before) e
after_one n homes before e = run-append before (e ∷ []) (opening_world n homes)

-- the events after some first ones
rest_on : (n : ℕ) (homes : List ℕ) (few : n ≤ 16) (row : ℕ) (before events : List Event)
    → AllByRecursion (IsOnWay n homes) (puts_from row (event_effects_from (run_of n homes before) events))
rest_on n homes few row before [] = tt
rest_on n homes few row before (e ∷ es) =
    let d = event_effect (run_of n homes before) e in
    all_append (IsOnWay n homes) (puts_by row d)
    (puts_from (row_after row d) (event_effects_from (happens (run_of n homes before) e) es))
    (event_effect_on n homes few before row e)
    (subst (λ w. AllByRecursion (IsOnWay n homes) (puts_from (row_after row d) (event_effects_from w es)))
    (after_one n homes before e) (rest_on n homes few (row_after row d) (before ++ e ∷ []) es))

run_on : (n : ℕ) (homes : List ℕ) (events : List Event)
    → n ≤ 16
    → AllByRecursion (IsOnWay n homes) (puts_of (event_effects_of n homes events))
run_on n homes events few = rest_on n homes few 0 [] events

run_count : (n : ℕ) (homes : List ℕ) (events : List Event) → n ≤ 16 → length (run_of n homes events).servers ≡ n
run_count n homes events few =
    ap (λ (w : World). length w.servers) (sym (is_now n homes few events)) ∙ last_count n homes few events

-- the arrows of its picture stand for all that it put, each for one thing
pub each_of_run : (n : ℕ) (homes : List ℕ) (events : List Event)
    → n ≤ 16
    → IsPermutation (puts_of (event_effects_of n homes events))
    (map (λ arrow. arrow.put) (arrows_of homes events (trace_of n homes events)))
each_of_run n homes events few =
    each_has_one homes events (trace_of n homes events)
    (subst (λ m. AllByRecursion (IsOnWay m homes) (puts_of (event_effects_of n homes events)))
    (sym (run_count n homes events few)) (run_on n homes events few))
