-- Each event keeps that the calls that are with servers wait there, while numbers are left.
use Rattle.std.proofs.Common.{◌≡◌, ◌≢◌, ℕ, ◌<◌, true, false, not, List, length, None, Some, refl, sym, ap, subst, ◌∙◌}
use Rattle.std.proofs.Common.{inl, inr, ◌⊎◌}
use Rattle.std.specs.Prelude.{slice_get}
use Rattle.std.proofs.lemmas.Bool.{cond_both, cases_eq, cases_Bool}
use Rattle.std.proofs.lemmas.Option.{same_Some}
use Rattle.table.specs.Operations.{is_update, is_value}
use Rattle.table.specs.declared.operations.Call.{Call}
use Rattle.table.specs.declared.operations.Reply.{Reply}
use Rattle.proto.specs.Turns.{Faulty, Calls}
use Rattle.proto.specs.Sessions.{Given}
use Rattle.node.specs.declared.servers.OpenUpdate.{OpenUpdate}
use Rattle.node.specs.declared.servers.OpenRead.{OpenRead}
use Rattle.node.specs.declared.messages.Input.{Input}
use Rattle.node.specs.declared.messages.Input.TheVariants.{Call as Called, From, Gone}
use Rattle.node.specs.declared.messages.Output.{Output}
use Rattle.node.specs.declared.messages.Output.TheVariants.{Reply as Answered}
use Rattle.node.specs.Views.{union, single}
use Rattle.node.specs.Servers.{RuleResult}
use Rattle.node.specs.Steps.{step}
use Rattle.node.specs.Lawful.{IsInput, HoldsEntry, IsLawful}
use Rattle.world.specs.declared.connections.Stage.{Stage}
use Rattle.world.specs.declared.connections.Stage.TheVariants.{Idle, Begun, Asked, Replied}
use Rattle.world.specs.Connections.{Connection, open_call, may_have, came, begun, begun_by, past_faults, handed, asked}
use Rattle.world.specs.Worlds.{World, server, lives, takes, with_link, with_connection, where_home_lives, opening_world}
use Rattle.node.proofs.Lists.{In}
use Rattle.world.proofs.trace.WorldLaws.{unchanged_one}
use Rattle.world.proofs.trace.IdLaws.{living_parts}
use Rattle.world.proofs.trace.Traces.{Traced, count}
use Rattle.world.proofs.trace.Layers.{Lawful}
use Rattle.node.proofs.OpenCalls.{update_in}
use Rattle.node.proofs.DoneSteps.{step_done}
use Rattle.world.proofs.trace.Outsets.{fresh_at}
use Rattle.world.proofs.waiting.KeptOpen.{AnswersPort, KeepsOpen, open_done}
use Rattle.world.proofs.waiting.CallsOpened.{IsOpenAt, HasRoom, call_opened}
use Rattle.world.proofs.streams.Ways.{servers_connected, servers_linked, connections_linked, Way, Stays, Comes, Starts}
use Rattle.world.proofs.streams.Ways.{Hands, Fails, Works, Delivers, Tells, Working}
use Rattle.world.proofs.waiting.Stages.{AllOpen, Fits, IsKept, acted_open}

-- ---- replies that fit

-- an update may have a reply that shows no item
pub fits_update : (call : Call) (reply : Reply)
    → is_update call.op ≡ true
    → is_value reply ≡ false
    → may_have (Some call) reply ≡ true
fits_update call reply is plain = rw (is, plain) refl

fits_read : (call : Call) (reply : Reply)
    → is_update call.op ≡ false
    → is_value reply ≡ true
    → may_have (Some call) reply ≡ true
fits_read call reply is shows = rw (is, shows) refl

fits_both : (call : Call) (reply : Reply) → is_value reply ≡ not (is_update call.op) → may_have (Some call) reply ≡ true
fits_both call reply e = elim (cases_Bool (is_update call.op)) [
  | inl t ↦ fits_update call reply t (rw t at e)
  | inr f ↦ fits_read call reply f (rw f at e)
]

-- ---- changes of connections

never_begun : (r : Given) (k : Connection) → k.stage ≡ Idle → (begun_by r k).stage ≡ Asked → ⊥
never_begun (None, left) k e a = let g : Idle ≡ Asked = sym e ∙ a in cc
never_begun (Some (Faulty fault), left) k e a = let g : Idle ≡ Asked = sym e ∙ a in cc
never_begun (Some (Calls call form), left) k e a = let g : Begun ≡ Asked = a in cc

-- a connection whose call is with its server after a begin is as it was before
pub same_begun : (s : Stage) (k : Connection) → k.stage ≡ s → (begun s k).stage ≡ Asked → begun s k ≡ k
same_begun Idle k e a = absurd (never_begun (past_faults k.session) k e a)
same_begun Begun k e a = refl
same_begun Asked k e a = refl
same_begun (Replied reply) k e a = refl

-- a connection whose call is with its server after a hand is as it was before
pub same_handed : (s : Stage) (k : Connection) → k.stage ≡ s → (handed s k).stage ≡ Asked → handed s k ≡ k
same_handed Idle k e a = refl
same_handed Begun k e a = refl
same_handed Asked k e a = refl
same_handed (Replied reply) k e a = absurd (let g : Idle ≡ Asked = a in cc)

-- a change that makes no call Asked, and leaves homes
abbrev IsMild : (Connection → Connection) → Type 0
IsMild change = (k : Connection) → (change k).stage ≡ Asked → ((change k).home ≡ k.home) × (k.stage ≡ Asked)

open_changed : (w : World) (c : ℕ) (change : Connection → Connection)
    → IsMild change
    → AllOpen w
    → AllOpen (with_connection w c (where_home_lives w change))
unfolding with_connection server
open_changed w c change mild all d k' here a =
    let before = unchanged_one w.connections c (where_home_lives w change) d k' here in
    let old = before.0 in
    elim before.2 [
      | inl it ↦ (let m = cond_both (lives w old.home) (change old) old
          (λ (x : Connection). x.stage ≡ Asked → (x.home ≡ old.home) × (old.stage ≡ Asked)) (λ t b. mild old b)
          (λ f b. (refl, b)) (ap (λ (x : Connection). x.stage) (sym it.1) ∙ a) in
          subst (λ h. IsOpenAt (server w h) d) (sym m.0 ∙ ap (λ (x : Connection). x.home) (sym it.1))
          (all d old before.1 m.1))
      | inr other ↦ subst (λ (x : Connection). IsOpenAt (server w x.home) d) (sym other.1)
          (all d old before.1 (ap (λ (x : Connection). x.stage) (sym other.1) ∙ a))
    ]

came_mild : (bytes : List ℕ) → IsMild (came bytes)
came_mild bytes k a = (refl, a)

begun_mild : IsMild (λ k. begun k.stage k)
begun_mild k a = let same =
    same_begun k.stage k refl a in
    (ap (λ (x : Connection). x.home) same, ap (λ (x : Connection). x.stage) (sym same) ∙ a)

handed_mild : IsMild (λ k. handed k.stage k)
handed_mild k a = let same =
    same_handed k.stage k refl a in
    (ap (λ (x : Connection). x.home) same, ap (λ (x : Connection). x.stage) (sym same) ∙ a)

-- after one connection's call went to its server, a connection is that one, or as it was before
pub connections_asked : (w : World) (c d : ℕ) (k' : Connection)
    → slice_get (with_connection w c asked).connections d ≡ Some k'
    → ((k : Connection) × (slice_get w.connections c ≡ Some k) × (d ≡ c) × (k' ≡ asked k))
    ⊎ (slice_get w.connections d ≡ Some k')
unfolding with_connection
connections_asked w c d k' here =
    let before = unchanged_one w.connections c asked d k' here in
    elim before.2 [
      | inl it ↦ inl (before.0, ap (λ x. slice_get w.connections x) (sym it.0) ∙ before.1, it.0, it.1)
      | inr other ↦ inr (before.1 ∙ ap Some (sym other.1))
    ]

open_failing : (w : World) (i : ℕ) → AllOpen w → AllOpen (record w { failed = union w.failed (single i) })
unfolding server
open_failing w i all = all

-- ---- steps

module _ (t : Traced) (h : Lawful t) (servers : (i : ℕ) → i < count t → IsLawful (server t.world i))
    (all : AllOpen t.world) where
  kept_open : (a : ℕ) (input : Input)
      → a < count t
      → IsInput input
      → HoldsEntry input
      → KeepsOpen (server t.world a) (step (server t.world a) input)
  kept_open a input l fit valid =
      open_done (Some input) (server t.world a) _ (step_done (server t.world a) input (servers a l) fit valid)

  update_answered : (a c : ℕ) (k : Connection) (u : OpenUpdate) (os : List Output)
      → a < count t
      → slice_get t.world.connections c ≡ Some k
      → In u (server t.world a).pend
      → u.port ≡ c
      → AnswersPort u.port false os
      → Fits c k os
  update_answered a c k u os l here i port x =
      let w = (h.calling.pend a u l i).2 in
      let same : w.connection ≡ k =
      same_Some w.connection k (sym w.here ∙ ap (λ p. slice_get t.world.connections p) port ∙ here) in
      let is = (update_in (server t.world a).pend (server t.world a).next_id u (servers a l).sound.updates i).1 in (
        x.0,
        (x.1.0, x.1.1 ∙ ap (λ p. Some (Answered p x.0)) port),
        ap (λ o. may_have o x.0) (ap (λ y. open_call y) (sym same) ∙ w.asked) ∙ fits_update u.call x.0 is x.2,
      )

  read_answered : (a c : ℕ) (k : Connection) (r : OpenRead) (os : List Output)
      → a < count t
      → slice_get t.world.connections c ≡ Some k
      → In r (server t.world a).asks
      → r.port ≡ c
      → AnswersPort r.port true os
      → Fits c k os
  read_answered a c k r os l here i port x =
      let g = h.calling.asks a r l i in
      let w = g.1 in
      let same : w.connection ≡ k =
      same_Some w.connection k (sym w.here ∙ ap (λ p. slice_get t.world.connections p) port ∙ here) in (
        x.0,
        (x.1.0, x.1.1 ∙ ap (λ p. Some (Answered p x.0)) port),
        ap (λ o. may_have o x.0) (ap (λ y. open_call y) (sym same) ∙ w.asked) ∙ fits_read g.0 x.0 g.3 x.2,
      )

  still_open : (a c : ℕ) (k : Connection) (o : RuleResult)
      → a < count t
      → KeepsOpen (server t.world a) o
      → slice_get t.world.connections c ≡ Some k
      → IsOpenAt (server t.world a) c
      → IsOpenAt o.state c ⊎ Fits c k o.outputs
  still_open a c k o l kept here (inl (u, i, port)) =
      elim (kept.updates u i)
      [ inl w ↦ inl (inl (u, w, port)) | inr x ↦ inr (update_answered a c k u o.outputs l here i port x) ]
  still_open a c k o l kept here (inr (r, i, port)) =
      elim (kept.reads r i)
      [ inl w ↦ inl (inr (r, w, port)) | inr x ↦ inr (read_answered a c k r o.outputs l here i port x) ]

  -- a connection that was Asked before
  kept_one : (v : World) (a : ℕ) (input : Input)
      → a < count t
      → IsInput input
      → HoldsEntry input
      → ((x : ℕ) → server v x ≡ server t.world x)
      → (c : ℕ) (k : Connection)
      → slice_get t.world.connections c ≡ Some k
      → k.stage ≡ Asked
      → ((k.home ≢ a) × IsOpenAt (server v k.home) c)
      ⊎ ((k.home ≡ a) × (IsOpenAt (step (server v a) input).state c ⊎ Fits c k (step (server v a) input).outputs))
  kept_one v a input l fit valid same c k here stage =
      let waits = all c k here stage in
      elim (cases_eq k.home a) [
        | inr other ↦ inl (other, subst (λ s. IsOpenAt s c) (sym (same k.home)) waits)
        | inl own ↦ inr (
          own,
          subst (λ s. IsOpenAt (step s input).state c ⊎ Fits c k (step s input).outputs) (sym (same a))
              (still_open a c k _ l (kept_open a input l fit valid) here
              (subst (λ x. IsOpenAt (server t.world x) c) own waits)),
        )
      ]

  kept_all : (v : World) (a : ℕ) (input : Input)
      → a < count t
      → IsInput input
      → HoldsEntry input
      → ((x : ℕ) → server v x ≡ server t.world x)
      → v.connections ≡ t.world.connections
      → IsKept v a (step (server v a) input)
  kept_all v a input l fit valid same conns c k here stage =
      kept_one v a input l fit valid same c k (ap (λ ks. slice_get ks c) (sym conns) ∙ here) stage

  open_working : (u : World) (r : Working t.world u)
      → HasRoom (server t.world r.connection.home)
      → AllOpen (takes (with_connection t.world r.c asked) r.connection.home (Called r.c r.call))
  open_working u r room =
      let a = r.connection.home in
      let v = with_connection t.world r.c asked in
      let l = (living_parts t.world a r.lives).0 in
      let fit = h.framed.calls r.c (length r.connection.replies) r.connection r.call r.here r.called in
      let same = (servers_connected t.world r.c asked).1 in
      acted_open v a (Called r.c r.call) (rw (servers_connected t.world r.c asked).0 l) (λ d k' here stage.
      elim (connections_asked t.world r.c d k' here) [
        | inr old ↦ kept_one v a (Called r.c r.call) l fit tt same d k' old stage
        | inl new ↦ (let k_is : new.0 ≡ r.connection = same_Some new.0 r.connection (sym new.1 ∙ r.here) in
            let is : k' ≡ asked r.connection = new.3 ∙ ap asked k_is in
            let taken = call_opened (server t.world a) r.c r.call (servers a l) fit room in
            let called : open_call k' ≡ Some r.call = ap (λ x. open_call x) is ∙ r.called in
            inr (
              ap (λ (x : Connection). x.home) is,
              subst (λ s. IsOpenAt (step s (Called r.c r.call)).state d
                  ⊎ Fits d k' (step s (Called r.c r.call)).outputs) (sym (same a))
                  (elim taken [
                    | inl w ↦ inl (subst (λ x. IsOpenAt (step (server t.world a) (Called r.c r.call)).state x)
                        (sym new.2) w)
                    | inr x ↦ inr (
                      x.0,
                      (x.1.0, x.1.1 ∙ ap (λ p. Some (Answered p x.0)) (sym new.2)),
                      ap (λ o. may_have o x.0) called ∙ fits_both r.call x.0 x.2,
                    )
                  ]),
            ))
      ])

  -- each event
  pub open_way : (u : World) → Way t.world u → ((i : ℕ) → i < count t → HasRoom (server t.world i)) → AllOpen u
  open_way u (Stays e) room = rw e all
  open_way u (Comes c bytes e) room = rw e (open_changed t.world c (came bytes) (came_mild bytes) all)
  open_way u (Starts c e) room = rw e (open_changed t.world c (λ k. begun k.stage k) begun_mild all)
  open_way u (Hands c e) room = rw e (open_changed t.world c (λ k. handed k.stage k) handed_mild all)
  open_way u (Fails i e) room = rw e (open_failing t.world i all)
  open_way u (Works r) room =
      rw r.world (open_working u r (room r.connection.home (living_parts t.world r.connection.home r.lives).0))
  open_way u (Delivers r) room =
      let m = h.framed.sound r.i r.j r.message (rw r.first (0, refl)) in
      let l = (living_parts t.world r.j r.lives).0 in
      let same = servers_linked t.world r.i r.j r.later in
      rw r.world (acted_open (with_link t.world r.i r.j r.later) r.j (From r.i r.message) (rw same.0 l)
      (kept_all _ r.j (From r.i r.message) l m.fit m.entry same.1 (connections_linked t.world r.i r.j r.later)))
  open_way u (Tells r) room =
      let l = (living_parts t.world r.i r.lives).0 in
      rw r.world (acted_open t.world r.i (Gone r.j) l (kept_all t.world r.i (Gone r.j) l tt tt (λ x. refl) refl))

-- before any event no call is with a server
pub open_outset : (n : ℕ) (homes : List ℕ) → AllOpen (opening_world n homes)
open_outset n homes c k here stage =
    absurd (let f = fresh_at homes c k here in let e : Idle ≡ Asked = ap (λ (x : Connection). x.stage) (sym f.2)
    ∙ stage in cc)
