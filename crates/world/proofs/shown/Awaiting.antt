-- No reply is dropped: each one that a server puts out is awaited by a connection at it.
use Rattle.std.proofs.Common.{◌≡◌, ℕ, ◌≤◌, Bool, true, false, List, [], ◌∷◌, ◌++◌, length, Option, Some, None, refl}
use Rattle.std.proofs.Common.{sym, ap, ◌∙◌, subst, arith}
use Rattle.std.specs.Prelude.{slice_get, nat_lt, ◌==◌, if◌then◌else◌}
use Rattle.std.proofs.lemmas.Bool.{and_parts, ltb-true}
use Rattle.std.proofs.lemmas.List.{take_all}
use Rattle.table.specs.Operations.{is_update}
use Rattle.table.specs.declared.operations.Call.{Call}
use Rattle.table.specs.declared.operations.Reply.{Reply}
use Rattle.versions.specs.Entries.{LogEntry}
use Rattle.node.specs.declared.servers.OpenUpdate.{OpenUpdate}
use Rattle.node.specs.declared.messages.Peer.{Peer}
use Rattle.node.specs.declared.messages.Input.{Input}
use Rattle.node.specs.declared.messages.Input.TheVariants.{Call as Called, From, Gone}
use Rattle.node.specs.declared.messages.Output.{Output}
use Rattle.node.specs.declared.messages.Output.TheVariants.{To, Reply as Answered}
use Rattle.node.specs.Views.{has}
use Rattle.node.specs.Numbering.{reply_to, open_update, replied}
use Rattle.node.specs.Steps.{step}
use Rattle.world.specs.declared.events.Event.{Event}
use Rattle.world.specs.declared.connections.Stage.{Stage}
use Rattle.world.specs.declared.connections.Stage.TheVariants.{Idle, Begun, Asked, Replied}
use Rattle.world.specs.Connections.{Connection, open_call, to_work, may_have, asked}
use Rattle.world.specs.Worlds.{World, server, link, lives, has_failed, with_server, with_link, with_connection, put}
use Rattle.world.specs.Worlds.{put_all, run_of}
use Rattle.world.specs.Awaited.{IsAwaited, AreAwaited}
use Rattle.node.specs.Actions.{Action, Widen, Append, Reach, Settle, Send, Finish, Trim, Enter, Ask, Show, act, does}
use Rattle.node.specs.Actions.{Cause, left, AreGuarded}
use Rattle.world.proofs.trace.Traces.{Traced, done, reconnected, unlinked}
use Rattle.world.proofs.trace.Layers.{Lawful, IsWith, IsKnown}
use Rattle.world.proofs.trace.IdLaws.{living_parts}
use Rattle.node.proofs.OpenCalls.{update_in}
use Rattle.node.proofs.OpenLists.{IsClosed, closed_by}
use Rattle.world.proofs.calls.StepInputs.{IsStep, within, known_of, acked_committed}
use Rattle.world.proofs.trace.TraceLaws.{server_done, lives_done}
use Rattle.world.proofs.trace.ChangeLaws.{lives_reconnected, lives_unlinked}
use Rattle.world.proofs.moments.KnownInputs.{known_on, known_called, known_taken}
use Rattle.world.proofs.trace.Moves.{Does, Works, Takes, CanDo, CanWork, CanTake}
use Rattle.world.proofs.moments.Goings.{later_by, lawful_by}
use Rattle.world.proofs.moments.Happenings.{AllLawful}
use Rattle.world.proofs.moments.AllLaws.{laws}
use Rattle.world.proofs.order.OneOrder.{all}
use Rattle.node.specs.Lawful.{IsInput, HoldsEntry}

-- outputs after others
awaited-append : (w : World) (i : ℕ) (os ps : List Output)
    → AreAwaited w.connections i os
    → AreAwaited (put_all w i os).connections i ps
    → AreAwaited w.connections i (os ++ ps)
unfolding put_all with_link with_connection
awaited-append w i [] ps h g = g
awaited-append w i (To j m ∷ os) ps h g = awaited-append (put w i (To j m)) i os ps h g
awaited-append w i (Answered c reply ∷ os) ps h g = (h.0, awaited-append (put w i (Answered c reply)) i os ps h.1 g)

-- a call that is with its server awaits a reply that fits it
with_awaits : (t : Traced) (i c : ℕ) (call : Call) (reply : Reply)
    → IsWith t i c call
    → may_have (Some call) reply ≡ true
    → IsAwaited t.world.connections i c reply
with_awaits t i c call reply w fits =
    record {
      connection = w.connection;
      here = w.here;
      home = w.home;
      stage = w.stage;
      fits = ap (λ o. may_have o reply) w.asked ∙ fits;
    }

-- ---- one action

settled_one : (t : Traced) (i : ℕ) (cause : Cause) (e : LogEntry)
    → IsStep t i cause (Settle e)
    → (os : List Output)
    → reply_to (server t.world i).id (server t.world i).pend e ≡ os
    → (o : Option OpenUpdate) (b : Bool)
    → os ≡ (if b then replied e.reply o else [])
    → AreAwaited t.world.connections i os
settled_one t i cause e g os same o false is = rw is tt
settled_one t i cause e g os same None true is = rw is tt
settled_one t i cause e g os same (Some u) true is =
    let l = g.lawful in
    let lt = within t i cause (Settle e) g in
    let h : IsClosed (server t.world i).id (server t.world i).pend e u.port e.reply =
    closed_by _ _ e u.port e.reply (0, ap (λ xs. slice_get xs 0) (same ∙ is)) in
    let entry = (acked_committed t i e l g.lives g.guard.0 g.guard.1).1 in
    let with : IsWith t i u.port h.update.call =
    subst (λ c. IsWith t i c h.update.call) h.port (l.calling.pend i h.update lt h.here).2 in
    let update : is_update h.update.call.op ≡ true = (update_in _ _ h.update g.sound.updates h.here).1 in
    rw is (with_awaits t i u.port h.update.call e.reply with (rw (update, entry.answered) refl), tt)

awaited_act : (t : Traced) (i : ℕ) (cause : Cause) (a : Action)
    → IsStep t i cause a
    → AreAwaited t.world.connections i (act (server t.world i) a).outputs
unfolding act
awaited_act t i cause (Widen v) g = tt
awaited_act t i cause (Append e) g = tt
awaited_act t i cause (Reach n) g = tt
awaited_act t i cause (Settle e) g =
    settled_one t i cause e g _ refl (open_update (server t.world i).pend e.id) (e.origin == (server t.world i).id) refl
awaited_act t i cause (Send j body) g = tt
awaited_act t i cause (Finish r n) g =
    let w = g.lawful.calling.asks i r (within t i cause (Finish r n) g) g.guard.1 in
    (with_awaits t i r.port w.0 _ w.1 (rw w.3 refl), tt)
awaited_act t i cause Trim g = tt
awaited_act t i cause (Enter port call) g = tt
awaited_act t i cause (Ask port key) g = tt
awaited_act t i cause (Show port key) g =
    let k = known_of t i cause (Some (Called port g.guard.0)) g.guard.1 g.known in
    (with_awaits t i port g.guard.0 _ k.1 (rw g.guard.2 refl), tt)

-- ---- the actions of a step

behind_first : (t : Traced) (i : ℕ) (a : Action) (ps : List Output)
    → AreAwaited t.world.connections i (act (server t.world i) a).outputs
    → AreAwaited (done t i a).world.connections i ps
    → AreAwaited t.world.connections i ((act (server t.world i) a).outputs ++ ps)
unfolding done with_server
behind_first t i a ps h g =
    awaited-append (with_server t.world i (act (server t.world i) a).state) i (act (server t.world i) a).outputs ps h g

awaited_all : (t : Traced) (i : ℕ) (cause : Cause) (actions : List Action)
    → Lawful t
    → lives t.world i ≡ true
    → IsKnown t i cause
    → AreGuarded cause (server t.world i) actions
    → AreAwaited t.world.connections i (does (server t.world i) actions).outputs
unfolding does
awaited_all t i cause [] l living known g = tt
awaited_all t i cause (a ∷ more) l living known g =
    let u = done t i a in
    let can : CanDo t i cause a = record { lives = living; known = known; sound = g.0; guard = g.1 } in
    let later = later_by laws t (Does i cause a) can l in
    let is : IsStep t i cause a =
    record { lives = living; lawful = l; known = known; sound = g.0; guard = g.1; later = later } in
    let same = server_done t i a (living_parts t.world i living).0 in
    let guarded = subst (λ s. AreGuarded (left cause) s more) (sym same) g.2 in
    let rest = awaited_all u i (left cause) more (lawful_by laws t (Does i cause a) can l) (lives_done t i a i ∙ living)
    (known_on t u i cause later known) guarded in
    behind_first t i a _ (awaited_act t i cause a is)
    (subst (λ s. AreAwaited u.world.connections i (does s more).outputs) same rest)

fits_known : (t : Traced) (i : ℕ) (input : Input) → IsKnown t i (Some input) → IsInput input × HoldsEntry input
fits_known t i (Called port call) known = (known.0, tt)
fits_known t i (From j m) known = (known.0.fit, known.0.entry)
fits_known t i (Gone j) known = (tt, tt)

awaited_step : (t : Traced) (i : ℕ) (input : Input)
    → Lawful t
    → AllLawful t.world
    → lives t.world i ≡ true
    → IsKnown t i (Some input)
    → AreAwaited t.world.connections i (step (server t.world i) input).outputs
awaited_step t i input l all living known =
    let fit = fits_known t i input known in
    let d = laws.step (server t.world i) input (all i (living_parts t.world i living).0) fit.0 fit.1 in
    subst (λ o. AreAwaited t.world.connections i o.outputs) (sym d.same)
    (awaited_all t i (Some input) d.actions l living known d.guarded)

-- ---- events

working : (t : Traced) (c : ℕ) (g : CanWork t c)
    → Lawful t
    → AllLawful t.world
    → (u : Traced)
    → u ≡ reconnected t c asked
    → Lawful u
    → IsKnown u g.connection.home (Some (Called c g.call))
    → AreAwaited (with_connection t.world c asked).connections g.connection.home
    (step (server (with_connection t.world c asked) g.connection.home) (Called c g.call)).outputs
unfolding reconnected with_connection server
working t c g l all u is lawful known =
    awaited_step (reconnected t c asked) g.connection.home (Called c g.call) (subst (λ v. Lawful v) is lawful) all
    (lives_reconnected t c asked g.connection.home ∙ g.lives)
    (subst (λ v. IsKnown v g.connection.home (Some (Called c g.call))) is known)

delivering : (t : Traced) (i j : ℕ) (ms : List Peer) (g : CanTake t i j ms)
    → Lawful t
    → AllLawful t.world
    → Lawful (unlinked t i j ms)
    → IsKnown (unlinked t i j ms) j (Some (From i g.message))
    → AreAwaited t.world.connections j (step (server t.world j) (From i g.message)).outputs
unfolding unlinked with_link server
delivering t i j ms g l all lawful known =
    awaited_step (unlinked t i j ms) j (From i g.message) lawful all (lives_unlinked t i j ms j ∙ g.lives) known

begun_stage : (s : Stage) (k : Connection) (call : Call)
    → to_work s k ≡ Some call
    → (s ≡ Begun) × (open_call k ≡ Some call)
begun_stage Idle k call h = absurd cc
begun_stage Begun k call h = (refl, h)
begun_stage Asked k call h = absurd cc
begun_stage (Replied reply) k call h = absurd cc

module _ (t : Traced) (l : Lawful t) (lawful : AllLawful t.world) where
  awaited_works : (c : ℕ) (k : Connection) (call : Call)
      → slice_get t.world.connections c ≡ Some k
      → lives t.world k.home ≡ true
      → to_work k.stage k ≡ Some call
      → AreAwaited (with_connection t.world c asked).connections k.home
      (step (server (with_connection t.world c asked) k.home) (Called c call)).outputs
  awaited_works c k call here living work =
      let s = begun_stage k.stage k call work in
      let g : CanWork t c =
      record { connection = k; call = call; here = here; lives = living; stage = s.0; called = s.1 } in
      working t c g l lawful _ refl (lawful_by laws t (Works c) g l) (known_called t c g l)

  awaited_delivers : (i j : ℕ) (m : Peer) (ms : List Peer)
      → link t.world i j ≡ m ∷ ms
      → lives t.world j ≡ true
      → AreAwaited t.world.connections j (step (server t.world j) (From i m)).outputs
  awaited_delivers i j m ms here living =
      let g : CanTake t i j ms = record { message = m; here = here; lives = living } in
      delivering t i j ms g l lawful (lawful_by laws t (Takes i j ms) g l)
      (known_taken t i j ms g l (later_by laws t (Takes i j ms) g l))

  awaited_tells : (i j : ℕ)
      → lives t.world i ≡ true
      → has_failed t.world j ≡ true
      → AreAwaited t.world.connections i (step (server t.world i) (Gone j)).outputs
  awaited_tells i j living failed =
      let q = and_parts (nat_lt j (length t.world.servers)) (has t.world.failed j) failed in
      awaited_step t i (Gone j) l lawful living (q.1, ltb-true _ _ q.0)

-- ---- a schedule's world

module _ (n : ℕ) (homes : List ℕ) (events : List Event) (few : n ≤ 16) where
  abbrev last : Traced
  last = (all n homes events few).at (length events)

  world : last.world ≡ run_of n homes events
  world = (all n homes events few).world (length events)
      ∙ ap (run_of n homes) (take_all (length events) events (omega arith))

  abbrev WorksAwaited : World → Type 0
  WorksAwaited w = (c : ℕ) (k : Connection) (call : Call) → slice_get w.connections c ≡ Some k → lives w k.home ≡ true
      → to_work k.stage k ≡ Some call
      → AreAwaited (with_connection w c asked).connections k.home
      (step (server (with_connection w c asked) k.home) (Called c call)).outputs

  abbrev DeliversAwaited : World → Type 0
  DeliversAwaited w = (i j : ℕ) (m : Peer) (ms : List Peer) → link w i j ≡ m ∷ ms → lives w j ≡ true
      → AreAwaited w.connections j (step (server w j) (From i m)).outputs

  abbrev TellsAwaited : World → Type 0
  TellsAwaited w = (i j : ℕ) → lives w i ≡ true → has_failed w j ≡ true
      → AreAwaited w.connections i (step (server w i) (Gone j)).outputs

  -- each reply that is put out when a call goes to its server is awaited
  pub works_awaited : WorksAwaited (run_of n homes events)
  works_awaited = subst WorksAwaited world
      (awaited_works last ((all n homes events few).lawful (length events))
      ((all n homes events few).all (length events)))

  -- each reply that is put out at a delivery is awaited
  pub delivers_awaited : DeliversAwaited (run_of n homes events)
  delivers_awaited =
      subst DeliversAwaited world
      (awaited_delivers last ((all n homes events few).lawful (length events))
      ((all n homes events few).all (length events)))

  -- each reply that is put out at the news of a failure is awaited
  pub tells_awaited : TellsAwaited (run_of n homes events)
  tells_awaited = subst TellsAwaited world
      (awaited_tells last ((all n homes events few).lawful (length events))
      ((all n homes events few).all (length events)))
