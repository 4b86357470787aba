-- Which calls are with their servers after an event: those that were before, and the one that the event gave to its
-- server.
use Rattle.std.proofs.Common.{◌≡◌, ℕ, List, Some, refl, sym, ap, ◌∙◌, subst, ◌⊎◌, inl, inr}
use Rattle.std.specs.Prelude.{slice_get}
use Rattle.std.proofs.lemmas.Bool.{cond_both}
use Rattle.std.proofs.lemmas.Option.{same_Some}
use Rattle.node.specs.declared.messages.Input.{Input}
use Rattle.node.specs.declared.messages.Input.TheVariants.{Call as Called, From, Gone}
use Rattle.node.specs.Steps.{step}
use Rattle.world.specs.declared.connections.Stage.TheVariants.{Asked}
use Rattle.world.specs.Connections.{Connection, came, begun, handed, asked}
use Rattle.world.specs.Worlds.{World, server, lives, takes, with_server, with_link, with_connection, where_home_lives}
use Rattle.world.proofs.trace.WorldLaws.{unchanged_one, connection-before_all}
use Rattle.world.proofs.streams.Ways.{connections_linked, Way, Stays, Comes, Starts, Hands, Fails, Works, Delivers}
use Rattle.world.proofs.streams.Ways.{Tells, Working}
use Rattle.world.proofs.waiting.Stages.{still_asked}
use Rattle.world.proofs.waiting.StageEvents.{same_begun, same_handed, connections_asked}

-- this one was before
pub record WasAsked (w : World) (c : ℕ) (k : Connection) : Type 0 where
  pub before : Connection
  pub here : slice_get w.connections c ≡ Some before
  pub stage : before.stage ≡ Asked
  pub home : k.home ≡ before.home
  pub calls : k.calls ≡ before.calls
  pub replies : k.replies ≡ before.replies

-- this one was given to its server
pub record IsNew (w u : World) (c : ℕ) (k : Connection) : Type 0 where
  pub working : Working w u
  pub port : c ≡ working.c
  pub is : k ≡ asked working.connection
  pub here : slice_get (with_connection w working.c asked).connections c ≡ Some k

was_itself : (w : World) (c : ℕ) (k : Connection)
    → slice_get w.connections c ≡ Some k
    → k.stage ≡ Asked
    → WasAsked w c k
was_itself w c k here stage =
    record { before = k; here = here; stage = stage; home = refl; calls = refl; replies = refl }

-- a change that gives no call to a server, and leaves those that are with one
abbrev IsMild : (Connection → Connection) → Type 0
IsMild change = (k : Connection) → (change k).stage ≡ Asked
    → (k.stage ≡ Asked) × ((change k).home ≡ k.home) × ((change k).calls ≡ k.calls) × ((change k).replies ≡ k.replies)

came_mild : (bytes : List ℕ) → IsMild (came bytes)
came_mild bytes k a = (a, refl, refl, refl)

same_mild : (k l : Connection) → l ≡ k → l.stage ≡ Asked
    → (k.stage ≡ Asked) × (l.home ≡ k.home) × (l.calls ≡ k.calls) × (l.replies ≡ k.replies)
same_mild k l same a = (
  ap (λ (x : Connection). x.stage) (sym same) ∙ a,
  ap (λ (x : Connection). x.home) same,
  ap (λ (x : Connection). x.calls) same,
  ap (λ (x : Connection). x.replies) same,
)

begun_mild : IsMild (λ k. begun k.stage k)
begun_mild k a = same_mild k (begun k.stage k) (same_begun k.stage k refl a) a

handed_mild : IsMild (λ k. handed k.stage k)
handed_mild k a = same_mild k (handed k.stage k) (same_handed k.stage k refl a) a

asked_changed : (w : World) (c : ℕ) (change : Connection → Connection) (d : ℕ) (k' : Connection)
    → IsMild change
    → slice_get (with_connection w c (where_home_lives w change)).connections d ≡ Some k'
    → k'.stage ≡ Asked
    → WasAsked w d k'
unfolding with_connection
asked_changed w c change d k' mild here a =
    let was = unchanged_one w.connections c (where_home_lives w change) d k' here in
    let k = was.0 in
    let same : (k.stage ≡ Asked) × (k'.home ≡ k.home) × (k'.calls ≡ k.calls) × (k'.replies ≡ k.replies) =
    elim was.2 [
      | inr other ↦ same_mild k k' other.1 a
      | inl it ↦ subst
          (λ (x : Connection). x.stage ≡ Asked
          → (k.stage ≡ Asked) × (x.home ≡ k.home) × (x.calls ≡ k.calls) × (x.replies ≡ k.replies)) (sym it.1)
          (cond_both (lives w k.home) (change k) k
          (λ (x : Connection). x.stage ≡ Asked
          → (k.stage ≡ Asked) × (x.home ≡ k.home) × (x.calls ≡ k.calls) × (x.replies ≡ k.replies))
          (λ t b. mild k b) (λ f b. (b, refl, refl, refl))) a
    ] in
    record { before = k; here = was.1; stage = same.0; home = same.1; calls = same.2; replies = same.3 }

asked_taken : (w : World) (i : ℕ) (input : Input) (c : ℕ) (k' : Connection)
    → slice_get (takes w i input).connections c ≡ Some k'
    → k'.stage ≡ Asked
    → slice_get w.connections c ≡ Some k'
unfolding with_server
asked_taken w i input c k' here a =
    let o = step (server w i) input in
    let was = connection-before_all (with_server w i o.state) i o.outputs c k' here in
    was.1 ∙ ap Some (sym (still_asked o.outputs c was.0 k' was.2 a))

-- what stands in a world stands in one that is the same
pub stood : (w u : World) (c : ℕ) (k : Connection)
    → u ≡ w
    → slice_get u.connections c ≡ Some k
    → slice_get w.connections c ≡ Some k
stood w u c k same here = ap (λ (x : World). slice_get x.connections c) (sym same) ∙ here

-- a call that is with its server after an event was with it before, or is the one that the event gave to it
pub asked_way : (w u : World) (c : ℕ) (k : Connection)
    → Way w u
    → slice_get u.connections c ≡ Some k
    → k.stage ≡ Asked
    → WasAsked w c k ⊎ IsNew w u c k
asked_way w u c k (Stays e) here a = inl (was_itself w c k (stood w u c k e here) a)
asked_way w u c k (Comes d bytes e) here a =
    inl (asked_changed w d (came bytes) c k (came_mild bytes) (stood _ u c k e here) a)
asked_way w u c k (Starts d e) here a =
    inl (asked_changed w d (λ k. begun k.stage k) c k begun_mild (stood _ u c k e here) a)
asked_way w u c k (Hands d e) here a =
    inl (asked_changed w d (λ k. handed k.stage k) c k handed_mild (stood _ u c k e here) a)
asked_way w u c k (Fails i e) here a = inl (was_itself w c k (stood _ u c k e here) a)
asked_way w u c k (Works r) here a =
    let there = asked_taken (with_connection w r.c asked) r.connection.home (Called r.c r.call) c k
    (stood _ u c k r.world here) a in
    elim (connections_asked w r.c c k there) [
      | inr old ↦ inl (was_itself w c k old a)
      | inl new ↦ inr (record {
        working = r;
        port = new.2;
        is = new.3 ∙ ap asked (same_Some new.0 r.connection (sym new.1 ∙ r.here));
        here = there;
      })
    ]
asked_way w u c k (Delivers r) here a =
    let there = asked_taken (with_link w r.i r.j r.later) r.j (From r.i r.message) c k (stood _ u c k r.world here) a in
    inl (was_itself w c k (ap (λ ks. slice_get ks c) (sym (connections_linked w r.i r.j r.later)) ∙ there) a)
asked_way w u c k (Tells r) here a =
    inl (was_itself w c k (asked_taken w r.i (Gone r.j) c k (stood _ u c k r.world here) a) a)
