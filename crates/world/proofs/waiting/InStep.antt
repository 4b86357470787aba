-- Each call of a connection but the open one has its reply.
use Rattle.std.proofs.Common.{◌≡◌, ℕ, ◌+◌, List, [], ◌∷◌, length, None, Some, refl, sym, ap, ◌∙◌, arith, length-append}
use Rattle.std.proofs.Common.{inl, inr}
use Rattle.std.specs.Prelude.{slice_get}
use Rattle.std.proofs.lemmas.Bool.{cond_both}
use Rattle.std.proofs.lemmas.Option.{same_Some}
use Rattle.proto.specs.Turns.{Faulty, Calls}
use Rattle.proto.specs.Sessions.{Given}
use Rattle.node.specs.declared.messages.Input.{Input}
use Rattle.node.specs.declared.messages.Input.TheVariants.{Call as Called, From, Gone}
use Rattle.world.specs.declared.events.Event.{Event}
use Rattle.world.specs.declared.connections.Stage.{Stage}
use Rattle.world.specs.declared.connections.Stage.TheVariants.{Idle, Begun, Asked, Replied}
use Rattle.world.specs.Connections.{Connection, came, begun_by, begun, past_faults, handed, asked}
use Rattle.world.specs.Worlds.{World, lives, takes, with_server, with_connection, with_link, where_home_lives, happens}
use Rattle.world.specs.Worlds.{opening_world}
use Rattle.world.proofs.trace.WorldLaws.{unchanged_one, connection-before_all}
use Rattle.world.proofs.trace.Outsets.{fresh_at}
use Rattle.world.proofs.streams.Ways.{Way, Stays, Comes, Starts, Hands, Fails, Works, Delivers, Tells, way}

-- how many calls are open
abbrev pub open_calls : Stage → ℕ
open_calls Idle = 0
open_calls Begun = 1
open_calls Asked = 1
open_calls (Replied reply) = 1

-- of this connection each call but the open one has its reply
abbrev pub InStep : Connection → Type 0
InStep k = length k.calls ≡ length k.replies + open_calls k.stage

-- of every connection each call but the open one has its reply
abbrev pub AllInStep : World → Type 0
AllInStep w = (c : ℕ) (k : Connection) → slice_get w.connections c ≡ Some k → InStep k

-- ---- changes

in_step_begun_by : (r : Given) (k : Connection) → k.stage ≡ Idle → InStep k → InStep (begun_by r k)
in_step_begun_by (None, left) k e h = h
in_step_begun_by (Some (Faulty fault), left) k e h = h
in_step_begun_by (Some (Calls call form), left) k e h =
    omega (arith, h, ap open_calls e, length-append k.calls (call ∷ []))

in_step_begun : (s : Stage) (k : Connection) → k.stage ≡ s → InStep k → InStep (begun s k)
in_step_begun Idle k e h = in_step_begun_by (past_faults k.session) k e h
in_step_begun Begun k e h = h
in_step_begun Asked k e h = h
in_step_begun (Replied reply) k e h = h

in_step_handed : (s : Stage) (k : Connection) → k.stage ≡ s → InStep k → InStep (handed s k)
in_step_handed Idle k e h = h
in_step_handed Begun k e h = h
in_step_handed Asked k e h = h
in_step_handed (Replied reply) k e h = omega (arith, h, ap open_calls e, length-append k.replies (reply ∷ []))

-- if one connection changes
in_step_changed : (w : World) (c : ℕ) (change : Connection → Connection)
    → ((k : Connection) → slice_get w.connections c ≡ Some k → InStep k → InStep (change k))
    → AllInStep w
    → AllInStep (with_connection w c change)
unfolding with_connection
in_step_changed w c change kept all d k' here =
    let before = unchanged_one w.connections c change d k' here in
    elim before.2 [
      | inl same ↦ rw same.1
          (kept before.0 (ap (λ (x : ℕ). slice_get w.connections x) (sym same.0) ∙ before.1) (all d before.0 before.1))
      | inr other ↦ rw other.1 (all d before.0 before.1)
    ]

at_home : (w : World) (c : ℕ) (change : Connection → Connection)
    → ((k : Connection) → InStep k → InStep (change k))
    → AllInStep w
    → AllInStep (with_connection w c (where_home_lives w change))
at_home w c change kept all =
    in_step_changed w c _
    (λ k here h. cond_both (lives w k.home) (change k) k (λ (x : Connection). InStep x) (λ t. kept k h)
    (λ f. h)) all

-- if a server takes an input
in_step_taken : (w : World) (i : ℕ) (input : Input) → AllInStep w → AllInStep (takes w i input)
unfolding with_server
in_step_taken w i input all c k' here =
    let before = connection-before_all _ i _ c k' here in
    let h = all c before.0 before.1 in
    elim before.2 [
      | inl same ↦ rw same h
      | inr r ↦ rw r.4 (omega (arith, h, ap open_calls r.2))
    ]

in_step_way : (w u : World) → Way w u → AllInStep w → AllInStep u
unfolding with_link
in_step_way w u (Stays e) all = rw e all
in_step_way w u (Comes c bytes e) all = rw e (at_home w c (came bytes) (λ k h. h) all)
in_step_way w u (Starts c e) all = rw e (at_home w c (λ k. begun k.stage k) (λ k h. in_step_begun k.stage k refl h) all)
in_step_way w u (Hands c e) all =
    rw e (at_home w c (λ k. handed k.stage k) (λ k h. in_step_handed k.stage k refl h) all)
in_step_way w u (Fails i e) all = rw e all
in_step_way w u (Works r) all =
    rw r.world (in_step_taken (with_connection w r.c asked) r.connection.home (Called r.c r.call)
    (in_step_changed w r.c asked (λ k here h.
    (let same : k ≡ r.connection = same_Some k r.connection (sym here ∙ r.here) in
    omega (arith, h, ap open_calls (ap (λ (x : Connection). x.stage) same ∙ r.stage)))) all))
in_step_way w u (Delivers r) all = rw r.world (in_step_taken (with_link w r.i r.j r.later) r.j (From r.i r.message) all)
in_step_way w u (Tells r) all = rw r.world (in_step_taken w r.i (Gone r.j) all)

-- each event keeps it
pub in_step_happens : (w : World) (e : Event) → AllInStep w → AllInStep (happens w e)
in_step_happens w e all = in_step_way w (happens w e) (way w e) all

-- before any event no connection has a call
pub in_step_outset : (n : ℕ) (homes : List ℕ) → AllInStep (opening_world n homes)
in_step_outset n homes c k here = let f = fresh_at homes c k here in rw f.2 refl
