-- Moves of one seat: its connection changes, and of its server only what waits for it.
use Rattle.std.proofs.Common.{◌≡◌, ◌≢◌, ℕ, false, cond, [], ◌++◌, length, Option, None, Some, refl, ap, sym, ◌∙◌, subst}
use Rattle.std.proofs.Common.{inl, inr}
use Rattle.std.specs.Prelude.{slice_get, not}
use Rattle.std.proofs.lemmas.Bool.{cases_eq, ne_eqb}
use Rattle.node.specs.declared.messages.Input.TheVariants.{Gone}
use Rattle.node.proofs.Lists.{In}
use Rattle.world.specs.Connections.{Connection, to_work}
use Rattle.world.specs.Waiting.{waiting_reply}
use Rattle.world.specs.Worlds.{World, server, link, lives, with_connection}
use Rattle.interleavings.specs.Chains.{RunningServer, Seat, Chain, with_at, with_running, with_seat, messages_from}
use Rattle.interleavings.specs.Chains.{messages_to, calls_from, replies_to}
use Rattle.interleavings.proofs.relation.StandsFor.{IsSeat, Sits, StandsFor, call_at, listed, queue, reply_at}
use Rattle.interleavings.proofs.lists.ChangedFunctions.{at_other, at_same, kept_at}
use Rattle.world.proofs.lists.Changed.{changed_other, changed_same}

-- the c-th connection is this from now on, and all else is as it was
pub record Reconnects (w v : World) (c : ℕ) (k : Connection) : Type 0 where
  pub count : length v.servers ≡ length w.servers
  pub lives : (i : ℕ) → lives v i ≡ lives w i
  pub servers : (i : ℕ) → server v i ≡ server w i
  pub links : (x y : ℕ) → link v x y ≡ link w x y
  pub here : slice_get v.connections c ≡ Some k
  pub others : (d : ℕ) → d ≢ c → slice_get v.connections d ≡ slice_get w.connections d

-- a change of one connection does so
pub reconnects : (w : World) (c : ℕ) (change : Connection → Connection) (k : Connection)
    → slice_get w.connections c ≡ Some k
    → Reconnects w (with_connection w c change) c (change k)
unfolding with_connection server link
reconnects w c change k here = record {
  count = refl;
  lives = λ i. refl;
  servers = λ i. refl;
  links = λ x y. refl;
  here = changed_same w.connections c change k here;
  others = λ d other. changed_other w.connections c change d other;
}

-- and so do two of one connection
pub reconnects_twice : (u v w : World) (c : ℕ) (k m : Connection)
    → Reconnects u v c k
    → Reconnects v w c m
    → Reconnects u w c m
reconnects_twice u v w c k m f g = record {
  count = g.count ∙ f.count;
  lives = λ i. g.lives i ∙ f.lives i;
  servers = λ i. g.servers i ∙ f.servers i;
  links = λ x y. g.links x y ∙ f.links x y;
  here = g.here;
  others = λ d other. g.others d other ∙ f.others d other;
}

-- of server i only what waits for seat c is another: the calls and the replies that its connection k says
pub record WaitsFor (i c : ℕ) (k : Connection) (s t : RunningServer) : Type 0 where
  pub node : t.node ≡ s.node
  pub stopped : t.stopped ≡ s.stopped
  pub from : (x : ℕ) → messages_from x (queue t) ≡ messages_from x (queue s)
  pub to : (y : ℕ) → messages_to y t.outbox ≡ messages_to y s.outbox
  pub calls : (d : ℕ) → d ≢ c → calls_from d (queue t) ≡ calls_from d (queue s)
  pub replies : (d : ℕ) → d ≢ c → replies_to d t.outbox ≡ replies_to d s.outbox
  pub own_calls : calls_from c (queue t) ≡ call_at i (Some k)
  pub own_replies : replies_to c t.outbox ≡ reply_at i (Some k)
  pub notices : (j : ℕ) → In (Gone j) (queue t) → In (Gone j) (queue s)

module _ (l : Chain) (w v : World) (c i : ℕ) (old k : Connection) (t : RunningServer) (s : Seat) (h : StandsFor l w)
    (there : slice_get w.connections c ≡ Some old) (was : old.home ≡ i) (home : k.home ≡ i)
    (r : Reconnects w v c k) (f : WaitsFor i c k (l.servers i) t) (sits : IsSeat v k s) where
  same_stopped : (x : ℕ) → (with_at l.servers i t x).stopped ≡ (l.servers x).stopped
  same_stopped x = kept_at (λ u. u.stopped) l.servers i t f.stopped x

  went : (x : ℕ) → (with_at l.servers i t x).stopped ≡ false → (l.servers x).stopped ≡ false
  went x e = sym (same_stopped x) ∙ e

  from_same : (x y : ℕ) → messages_from x (queue (with_at l.servers i t y)) ≡ messages_from x (queue (l.servers y))
  from_same x y = kept_at (λ u. messages_from x (queue u)) l.servers i t (f.from x) y

  to_same : (x y : ℕ) → messages_to y (with_at l.servers i t x).outbox ≡ messages_to y (l.servers x).outbox
  to_same x y = kept_at (λ u. messages_to y u.outbox) l.servers i t (f.to y) x

  -- at another server than its own nothing waits for the seat, before and after
  call_elsewhere : (x : ℕ) → x ≢ i → call_at x (Some old) ≡ call_at x (Some k)
  call_elsewhere x other =
      ap (λ b. cond b (listed (to_work old.stage old)) []) (ne_eqb old.home x (λ e. other (sym e ∙ was)))
      ∙ sym (ap (λ b. cond b (listed (to_work k.stage k)) []) (ne_eqb k.home x (λ e. other (sym e ∙ home))))

  reply_elsewhere : (x : ℕ) → x ≢ i → reply_at x (Some old) ≡ reply_at x (Some k)
  reply_elsewhere x other =
      ap (λ b. cond b (listed (waiting_reply old.stage)) []) (ne_eqb old.home x (λ e. other (sym e ∙ was)))
      ∙ sym (ap (λ b. cond b (listed (waiting_reply k.stage)) []) (ne_eqb k.home x (λ e. other (sym e ∙ home))))

  calls_same : (x d : ℕ)
      → (with_at l.servers i t x).stopped ≡ false
      → calls_from d (queue (with_at l.servers i t x)) ≡ call_at x (slice_get v.connections d)
  calls_same x d e = elim (cases_eq d c) [
    | inl own ↦ rw own (elim (cases_eq x i) [
      | inl at ↦ rw at (ap (λ u. calls_from c (queue u)) (at_same l.servers i t) ∙ f.own_calls
          ∙ sym (ap (call_at i) r.here))
      | inr other ↦ ap (λ u. calls_from c (queue u)) (at_other l.servers i t x other) ∙ h.calls x c (went x e)
          ∙ ap (call_at x) there ∙ call_elsewhere x other ∙ sym (ap (call_at x) r.here)
    ])
    | inr other ↦ kept_at (λ u. calls_from d (queue u)) l.servers i t (f.calls d other) x ∙ h.calls x d (went x e)
        ∙ sym (ap (call_at x) (r.others d other))
  ]

  replies_same : (x d : ℕ)
      → (with_at l.servers i t x).stopped ≡ false
      → replies_to d (with_at l.servers i t x).outbox ≡ reply_at x (slice_get v.connections d)
  replies_same x d e = elim (cases_eq d c) [
    | inl own ↦ rw own (elim (cases_eq x i) [
      | inl at ↦ rw at (ap (λ (u : RunningServer). replies_to c u.outbox) (at_same l.servers i t) ∙ f.own_replies
          ∙ sym (ap (reply_at i) r.here))
      | inr other ↦ ap (λ (u : RunningServer). replies_to c u.outbox) (at_other l.servers i t x other)
          ∙ h.replies x c (went x e)
          ∙ ap (reply_at x) there ∙ reply_elsewhere x other ∙ sym (ap (reply_at x) r.here)
    ])
    | inr other ↦ kept_at (λ u. replies_to d u.outbox) l.servers i t (f.replies d other) x ∙ h.replies x d (went x e)
        ∙ sym (ap (reply_at x) (r.others d other))
  ]

  notice_same : (x j : ℕ) → In (Gone j) (queue (with_at l.servers i t x)) → In (Gone j) (queue (l.servers x))
  notice_same x j g = elim (cases_eq x i) [
    | inl at ↦ rw at (f.notices j (subst (λ u. In (Gone j) (queue u)) (at_same l.servers i t)
        (subst (λ y. In (Gone j) (queue (with_at l.servers i t y))) at g)))
    | inr other ↦ subst (λ u. In (Gone j) (queue u)) (at_other l.servers i t x other) g
  ]

  sits_still : (o : Option Connection) (u : Seat)
      → Sits l w o u
      → Sits (with_seat (with_running l i t) c s) v o u
  sits_still None u g = record { stopped = same_stopped u.home ∙ g.stopped; none = g.none }
  sits_still (Some x) u g = record {
    home = g.home;
    replies = g.replies;
    unheard = g.unheard;
    calls = g.calls;
    heard = λ living. g.heard (sym (r.lives x.home) ∙ living);
    rested = λ living. g.rested (sym (r.lives x.home) ∙ living);
    tallies = g.tallies;
  }

  seats_same : (d : ℕ) → Sits (with_seat (with_running l i t) c s) v (slice_get v.connections d) (with_at l.seats c s d)
  seats_same d = elim (cases_eq d c) [
    | inl own ↦ subst (λ x. Sits (with_seat (with_running l i t) c s) v (slice_get v.connections x)
        (with_at l.seats c s x))
        (sym own)
        (subst (λ o. Sits (with_seat (with_running l i t) c s) v o (with_at l.seats c s c)) (sym r.here)
        (subst (λ u. IsSeat v k u) (sym (at_same l.seats c s)) sits))
    | inr other ↦ subst (λ o. Sits (with_seat (with_running l i t) c s) v o (with_at l.seats c s d))
        (sym (r.others d other))
        (subst (λ u. Sits (with_seat (with_running l i t) c s) v (slice_get w.connections d) u)
        (sym (at_other l.seats c s d other)) (sits_still _ (l.seats d) (h.seats d)))
  ]

  -- the world with that connection stands for the chain with that seat and server
  pub one_seat : StandsFor (with_seat (with_running l i t) c s) v
  one_seat = record {
    count = h.count ∙ sym r.count;
    lives = λ x. r.lives x ∙ h.lives x ∙ ap not (sym (same_stopped x));
    servers = λ x e. r.servers x ∙ h.servers x (went x e) ∙ sym (kept_at (λ u. u.node) l.servers i t f.node x);
    links = λ x y e. r.links x y ∙ h.links x y (went y e)
        ∙ ap (λ ms. ms ++ (l.channels x y ++ messages_to y (l.servers x).outbox)) (sym (from_same x y))
        ∙ ap (λ ms. messages_from x (queue (with_at l.servers i t y)) ++ (l.channels x y ++ ms)) (sym (to_same x y));
    calls = calls_same;
    replies = replies_same;
    notices = λ x j g. (let a = h.notices x j (notice_same x j g) in (a.0, same_stopped j ∙ a.1));
    seats = seats_same;
  }
