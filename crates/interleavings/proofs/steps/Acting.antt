-- A server's step: what stands for the chain before it stands for the chain after it.
use Rattle.std.proofs.Common.{◌≡◌, ◌≢◌, ℕ, ◌<◌, false, List, [], ◌++◌, length, Option, None, Some, refl, inl, inr, ap}
use Rattle.std.proofs.Common.{sym, ◌∙◌, subst, append-nil, append_assoc}
use Rattle.std.specs.Prelude.{slice_get, not}
use Rattle.std.proofs.lemmas.Bool.{cases_eq}
use Rattle.std.proofs.lemmas.List.{length-set}
use Rattle.node.specs.declared.messages.Input.TheVariants.{Gone}
use Rattle.node.specs.Servers.{ServerState, RuleResult}
use Rattle.node.proofs.Lists.{In}
use Rattle.world.specs.Connections.{Connection}
use Rattle.world.specs.Worlds.{World, server, link, lives, with_server, acted}
use Rattle.world.specs.Awaited.{AreAwaited}
use Rattle.world.proofs.trace.WorldLaws.{server_same, server_apart, servers-put_all, failed-put_all, server-put_all}
use Rattle.world.proofs.streams.Streaming.{sent_to}
use Rattle.world.proofs.streams.ForwardRuns.{HasLink, link-put_all_to, link-put_all_from}
use Rattle.interleavings.specs.Chains.{RunningServer, Chain, with_running, messages_to, replies_to, messages_from}
use Rattle.interleavings.specs.Chains.{calls_from}
use Rattle.interleavings.proofs.steps.Awaited.{HasIts, asked_calls, asked_replies, connection_has, none_has}
use Rattle.interleavings.proofs.steps.Awaited.{replied_calls, replied_other, replied_own}
use Rattle.interleavings.proofs.relation.StandsFor.{IsSeat, Sits, StandsFor, Tallies, call_at, queue, reply_at}
use Rattle.interleavings.proofs.relation.StandsFor.{under_way}
use Rattle.interleavings.proofs.lists.ChangedFunctions.{at_other, at_same, kept_at}
use Rattle.interleavings.proofs.lists.Joined.{messages_to-append, replies_to-append, sent_same}

-- server i is what a step made of it, and what that put out is left to put
abbrev pub act : Chain → ℕ → RuleResult → Chain
act l i a =
    with_running l i (record (l.servers i) { node = a.state; outbox = (l.servers i).outbox ++ a.outputs })

module _ (l : Chain) (w : World) (i : ℕ) (a : RuleResult) (h : StandsFor l w) (going : (l.servers i).stopped ≡ false)
    (within : i < length w.servers)
    (joined : (y : ℕ) → (l.servers y).stopped ≡ false → HasLink w i y)
    (awaited : AreAwaited w.connections i a.outputs) where
  abbrev new : RunningServer
  new = record (l.servers i) { node = a.state; outbox = (l.servers i).outbox ++ a.outputs }

  same_stopped : (k : ℕ) → ((act l i a).servers k).stopped ≡ (l.servers k).stopped
  same_stopped k = kept_at (λ s. s.stopped) l.servers i _ refl k

  same_queue : (k : ℕ) → queue ((act l i a).servers k) ≡ queue (l.servers k)
  same_queue k = kept_at queue l.servers i _ refl k

  went : (k : ℕ) → ((act l i a).servers k).stopped ≡ false → (l.servers k).stopped ≡ false
  went k e = sym (same_stopped k) ∙ e

  counted : length (acted w i a).servers ≡ length w.servers
  unfolding with_server
  counted = ap (λ (ss : List ServerState). length ss) (servers-put_all (with_server w i a.state) i a.outputs)
      ∙ length-set w.servers i a.state

  failed : (acted w i a).failed ≡ w.failed
  unfolding with_server
  failed = failed-put_all (with_server w i a.state) i a.outputs

  lived : (k : ℕ) → lives (acted w i a) k ≡ lives w k
  lived k = rw (counted, failed) refl

  served : (k : ℕ) → (l.servers k).stopped ≡ false → server (acted w i a) k ≡ ((act l i a).servers k).node
  served k e = server-put_all (with_server w i a.state) i a.outputs k ∙ elim (cases_eq k i) [
    | inl same ↦ rw same (server_same w i a.state within
        ∙ sym (ap (λ (s : RunningServer). s.node) (at_same l.servers i _)))
    | inr other ↦ server_apart w i k a.state other ∙ h.servers k e
        ∙ sym (ap (λ (s : RunningServer). s.node) (at_other l.servers i _ k other))
  ]

  link_mid : (x y : ℕ) → link (with_server w i a.state) x y ≡ link w x y
  unfolding with_server link
  link_mid x y = refl

  joined_mid : (y : ℕ) → HasLink w i y → HasLink (with_server w i a.state) i y
  unfolding with_server
  joined_mid y g = record { row = g.row; ordinal = g.ordinal }

  outbox_own : (y : ℕ)
      → messages_to y ((act l i a).servers i).outbox ≡ messages_to y (l.servers i).outbox ++ messages_to y a.outputs
  outbox_own y = ap (λ (s : RunningServer). messages_to y s.outbox) (at_same l.servers i new)
      ∙ messages_to-append y (l.servers i).outbox a.outputs

  from_own : (y : ℕ) → under_way l i y ++ messages_to y a.outputs ≡ under_way (act l i a) i y
  from_own y =
      let xs = messages_from i (queue (l.servers y)) in
      let ys = l.channels i y in
      let zs = messages_to y (l.servers i).outbox in
      append_assoc xs (ys ++ zs) (messages_to y a.outputs)
      ∙ ap (λ us. xs ++ us) (append_assoc ys zs (messages_to y a.outputs) ∙ ap (λ us. ys ++ us) (sym (outbox_own y)))
      ∙ ap (λ q. messages_from i q ++ (ys ++ messages_to y ((act l i a).servers i).outbox)) (sym (same_queue y))

  from_other : (x y : ℕ) → x ≢ i → under_way l x y ≡ under_way (act l i a) x y
  from_other x y other =
      ap (λ (s : RunningServer). messages_from x (queue (l.servers y)) ++ (l.channels x y ++ messages_to y s.outbox))
      (sym (at_other l.servers i new x other))
      ∙ ap (λ q. messages_from x q ++ (l.channels x y ++ messages_to y ((act l i a).servers x).outbox))
      (sym (same_queue y))

  linked : (x y : ℕ) → (l.servers y).stopped ≡ false → link (acted w i a) x y ≡ under_way (act l i a) x y
  linked x y e = elim (cases_eq x i) [
    | inl same ↦ rw same (
        link-put_all_to (with_server w i a.state) i a.outputs y (joined_mid y (joined y e))
        ∙ ap (λ ms. ms ++ sent_to y a.outputs) (link_mid i y ∙ h.links i y e)
        ∙ ap (λ ms. under_way l i y ++ ms) (sent_same y a.outputs)
        ∙ from_own y
        )
    | inr other ↦ link-put_all_from (with_server w i a.state) i a.outputs x y other ∙ link_mid x y ∙ h.links x y e
        ∙ from_other x y other
  ]

  -- ---- connections

  awaited_mid : AreAwaited (with_server w i a.state).connections i a.outputs
  unfolding with_server
  awaited_mid = awaited

  connection_after : (c : ℕ) (k : Connection)
      → slice_get w.connections c ≡ Some k
      → (k' : Connection) × (slice_get (acted w i a).connections c ≡ Some k') × HasIts i a.outputs c k k'
  unfolding with_server
  connection_after c k e = connection_has (with_server w i a.state) i a.outputs c k awaited e

  none_after : (c : ℕ)
      → slice_get w.connections c ≡ None
      → (slice_get (acted w i a).connections c ≡ None) × (replies_to c a.outputs ≡ [])
  unfolding with_server
  none_after c e = none_has (with_server w i a.state) i a.outputs c awaited e

  call_kept : (j c : ℕ) (o : Option Connection)
      → slice_get w.connections c ≡ o
      → call_at j o ≡ call_at j (slice_get (acted w i a).connections c)
  call_kept j c None e = sym (ap (call_at j) (none_after c e).0)
  call_kept j c (Some k) e =
      let r = connection_after c k e in
      elim r.2 [
        | inl same ↦ ap (λ x. call_at j (Some x)) (sym same.1) ∙ sym (ap (call_at j) r.1)
        | inr new ↦ asked_calls j k new.3 ∙ sym (replied_calls j k new.0) ∙ ap (λ x. call_at j (Some x)) (sym new.4)
            ∙ sym (ap (call_at j) r.1)
      ]

  called : (j c : ℕ)
      → ((act l i a).servers j).stopped ≡ false
      → calls_from c (queue ((act l i a).servers j)) ≡ call_at j (slice_get (acted w i a).connections c)
  called j c e = ap (calls_from c) (same_queue j) ∙ h.calls j c (went j e) ∙ call_kept j c _ refl

  outbox_replies : (c : ℕ)
      → replies_to c ((act l i a).servers i).outbox ≡ replies_to c (l.servers i).outbox ++ replies_to c a.outputs
  outbox_replies c = ap (λ (s : RunningServer). replies_to c s.outbox) (at_same l.servers i new)
      ∙ replies_to-append c (l.servers i).outbox a.outputs

  reply_own : (c : ℕ) (o : Option Connection)
      → slice_get w.connections c ≡ o
      → reply_at i o ++ replies_to c a.outputs ≡ reply_at i (slice_get (acted w i a).connections c)
  reply_own c None e = let r = none_after c e in r.1 ∙ sym (ap (reply_at i) r.0)
  reply_own c (Some k) e =
      let r = connection_after c k e in
      elim r.2 [
        | inl same ↦ ap (λ rs. reply_at i (Some k) ++ rs) same.0 ∙ append-nil (reply_at i (Some k))
            ∙ ap (λ x. reply_at i (Some x)) (sym same.1) ∙ sym (ap (reply_at i) r.1)
        | inr new ↦ ap (λ rs. rs ++ replies_to c a.outputs) (asked_replies i k new.3) ∙ new.1
            ∙ sym (replied_own i k new.0 new.2) ∙ ap (λ x. reply_at i (Some x)) (sym new.4) ∙ sym (ap (reply_at i) r.1)
      ]

  reply_other : (j c : ℕ) (o : Option Connection)
      → j ≢ i
      → slice_get w.connections c ≡ o
      → reply_at j o ≡ reply_at j (slice_get (acted w i a).connections c)
  reply_other j c None other e = sym (ap (reply_at j) (none_after c e).0)
  reply_other j c (Some k) other e =
      let r = connection_after c k e in
      elim r.2 [
        | inl same ↦ ap (λ x. reply_at j (Some x)) (sym same.1) ∙ sym (ap (reply_at j) r.1)
        | inr new ↦ asked_replies j k new.3 ∙ sym (replied_other j k new.0 (λ f. other (sym f ∙ new.2)))
            ∙ ap (λ x. reply_at j (Some x)) (sym new.4) ∙ sym (ap (reply_at j) r.1)
      ]

  answered : (j c : ℕ)
      → ((act l i a).servers j).stopped ≡ false
      → replies_to c ((act l i a).servers j).outbox ≡ reply_at j (slice_get (acted w i a).connections c)
  answered j c e = elim (cases_eq j i) [
    | inl same ↦ rw same (outbox_replies c ∙ ap (λ rs. rs ++ replies_to c a.outputs) (h.replies i c going)
        ∙ reply_own c _ refl)
    | inr other ↦ ap (λ (s : RunningServer). replies_to c s.outbox) (at_other l.servers i new j other)
        ∙ h.replies j c (went j e)
        ∙ reply_other j c _ other refl
  ]

  -- ---- seats

  sits_after : (c : ℕ) (o : Option Connection)
      → slice_get w.connections c ≡ o
      → Sits l w o (l.seats c)
      → Sits (act l i a) (acted w i a) (slice_get (acted w i a).connections c) (l.seats c)
  sits_after c None e s = subst (λ o. Sits (act l i a) (acted w i a) o (l.seats c)) (sym (none_after c e).0)
      (record { stopped = same_stopped (l.seats c).home ∙ s.stopped; none = s.none })
  sits_after c (Some k) e s =
      let r = connection_after c k e in
      subst (λ o. Sits (act l i a) (acted w i a) o (l.seats c)) (sym r.1) (elim r.2 [
        | inl same ↦ subst (λ x. IsSeat (acted w i a) x (l.seats c)) (sym same.1) (record {
          home = s.home;
          replies = s.replies;
          unheard = s.unheard;
          calls = s.calls;
          heard = λ living. s.heard (sym (lived k.home) ∙ living);
          rested = λ living. s.rested (sym (lived k.home) ∙ living);
          tallies = s.tallies;
        })
        | inr new ↦ subst (λ x. IsSeat (acted w i a) x (l.seats c)) (sym new.4) (record {
          home = s.home;
          replies = s.replies;
          unheard = s.unheard;
          calls = s.calls;
          heard = λ living. s.heard (sym (lived k.home) ∙ living);
          rested = λ living. s.rested (sym (lived k.home) ∙ living);
          tallies = subst (λ g. Tallies g (length k.calls) (length k.replies)) new.3 s.tallies;
        })
      ])

  -- the world after the rule's result stands for the chain after it
  pub acts : StandsFor (act l i a) (acted w i a)
  acts = record {
    count = h.count ∙ sym counted;
    lives = λ k. lived k ∙ h.lives k ∙ ap not (sym (same_stopped k));
    servers = λ k e. served k (went k e);
    links = λ x y e. linked x y (went y e);
    calls = called;
    replies = answered;
    notices = λ k j g.
        (let f = h.notices k j (subst (λ q. In (Gone j) q) (same_queue k) g) in (f.0, same_stopped j ∙ f.1));
    seats = λ c. sits_after c _ refl (h.seats c);
  }
