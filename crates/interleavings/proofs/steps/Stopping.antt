-- A server that stops fails.
use Rattle.std.proofs.Common.{◌≡◌, ◌≢◌, ℕ, Bool, true, false, cond, [], ◌∷◌, ◌++◌, length, Option, None, Some, refl, ap}
use Rattle.std.proofs.Common.{sym, ◌∙◌, subst, inl, inr, arith}
use Rattle.std.specs.Prelude.{not, ◌&&◌, ◌||◌, nat_lt}
use Rattle.std.proofs.lemmas.Bool.{cases_eq, cases_Bool, both_ways, not-true, or_right, and_right, not_from_true}
use Rattle.node.specs.declared.messages.Input.TheVariants.{Gone}
use Rattle.node.specs.Views.{has, union, single}
use Rattle.node.proofs.Lists.{In}
use Rattle.node.proofs.ViewLaws.{has-union, has-single_other, has-single_itself}
use Rattle.world.specs.declared.events.Event.TheVariants.{Fail}
use Rattle.world.specs.Connections.{Connection}
use Rattle.world.specs.Worlds.{World, server, link, lives}
use Rattle.interleavings.specs.Chains.{RunningServer, Seat, Chain, with_running, messages_from, messages_to, calls_from}
use Rattle.interleavings.specs.Chains.{replies_to}
use Rattle.interleavings.specs.Moves.{Stops, done}
use Rattle.interleavings.proofs.relation.StandsFor.{Reaches, Sits, StandsFor, queue}
use Rattle.interleavings.proofs.passing.Alike.{alike_stands}
use Rattle.interleavings.proofs.lists.ChangedFunctions.{at_other, at_same, kept_at}

or_none : (b : Bool) → (b || false) ≡ b
or_none true = refl
or_none false = refl

module _ (l : Chain) (w : World) (i : ℕ) (h : StandsFor l w) (going : (l.servers i).stopped ≡ false) where
  abbrev over : RunningServer
  over = record (l.servers i) { stopped = true }

  abbrev after : Chain
  after = with_running l i over

  abbrev less : World
  less = record w { failed = union w.failed (single i) }

  same_queue : (k : ℕ) → queue (after.servers k) ≡ queue (l.servers k)
  same_queue k = kept_at queue l.servers i over refl k

  same_outbox : (k : ℕ) → (after.servers k).outbox ≡ (l.servers k).outbox
  same_outbox k = kept_at (λ s. s.outbox) l.servers i over refl k

  -- who goes on is another, and went on before
  apart : (k : ℕ) → (after.servers k).stopped ≡ false → k ≢ i
  apart k e same = both_ways _ e (rw same (ap (λ (s : RunningServer). s.stopped) (at_same l.servers i over)))

  went : (k : ℕ) → (after.servers k).stopped ≡ false → (l.servers k).stopped ≡ false
  went k e = sym (ap (λ (s : RunningServer). s.stopped) (at_other l.servers i over k (apart k e))) ∙ e

  still : (k : ℕ) → (l.servers k).stopped ≡ true → (after.servers k).stopped ≡ true
  still k e = elim (cases_eq k i) [
    | inl same ↦ rw same (ap (λ (s : RunningServer). s.stopped) (at_same l.servers i over))
    | inr other ↦ ap (λ (s : RunningServer). s.stopped) (at_other l.servers i over k other) ∙ e
  ]

  failed_other : (k : ℕ) → k ≢ i → has (union w.failed (single i)) k ≡ has w.failed k
  failed_other k other = has-union w.failed (single i) k ∙ ap (λ b. has w.failed k || b) (has-single_other i k other)
      ∙ or_none (has w.failed k)

  failed_own : has (union w.failed (single i)) i ≡ true
  failed_own = has-union w.failed (single i) i ∙ or_right _ _ (has-single_itself i)

  lived : (k : ℕ) → lives less k ≡ not (after.servers k).stopped
  lived k = elim (cases_eq k i) [
    | inl same ↦ rw same (
        and_right (nat_lt i (length w.servers)) _ (not_from_true _ failed_own)
        ∙ ap not (sym (ap (λ (s : RunningServer). s.stopped) (at_same l.servers i over)))
        )
    | inr other ↦ ap (λ b. nat_lt k (length w.servers) && not b) (failed_other k other) ∙ h.lives k
        ∙ ap not (sym (ap (λ (s : RunningServer). s.stopped) (at_other l.servers i over k other)))
  ]

  lived_before : (k : ℕ) → lives less k ≡ true → lives w k ≡ true
  lived_before k e = h.lives k ∙ ap not (went k (not-true _ (sym (lived k) ∙ e)))

  sits_less : (o : Option Connection) (s : Seat) → Sits l w o s → Sits after less o s
  sits_less None s g = record { stopped = still s.home g.stopped; none = g.none }
  sits_less (Some k) s g = record {
    home = g.home;
    replies = g.replies;
    unheard = g.unheard;
    calls = g.calls;
    heard = λ living. g.heard (lived_before k.home living);
    rested = λ living. g.rested (lived_before k.home living);
    tallies = g.tallies;
  }

  server_less : (k : ℕ) → server less k ≡ server w k
  unfolding server
  server_less k = refl

  link_less : (x y : ℕ) → link less x y ≡ link w x y
  unfolding link
  link_less x y = refl

  stopped_stands : StandsFor after less
  stopped_stands = record {
    count = h.count;
    lives = lived;
    servers = λ k e. server_less k ∙ h.servers k (went k e) ∙ sym (kept_at (λ s. s.node) l.servers i over refl k);
    links = λ x y e. link_less x y ∙ h.links x y (went y e)
        ∙ ap (λ q. messages_from x q ++ (l.channels x y ++ messages_to y (l.servers x).outbox)) (sym (same_queue y))
        ∙ ap (λ os. messages_from x (queue (after.servers y)) ++ (l.channels x y ++ messages_to y os))
        (sym (same_outbox x));
    calls = λ k c e. ap (calls_from c) (same_queue k) ∙ h.calls k c (went k e);
    replies = λ k c e. ap (replies_to c) (same_outbox k) ∙ h.replies k c (went k e);
    notices = λ k j g.
        (let f = h.notices k j (subst (λ q. In (Gone j) q) (same_queue k) g) in (f.0, still j f.1));
    seats = λ c. sits_less _ (l.seats c) (h.seats c);
  }

  stops_going : Reaches w (done l (Stops i))
  stops_going =
      let living : lives w i ≡ true = h.lives i ∙ ap not going in
      (Fail i ∷ [], omega arith, subst (λ v. StandsFor after v) (sym (ap (λ b. cond b less w) living)) stopped_stands)

-- a stop is a fail, or nothing
pub stops_reach : (l : Chain) (w : World) (i : ℕ) → StandsFor l w → Reaches w (done l (Stops i))
stops_reach l w i h = elim (cases_Bool (l.servers i).stopped) [
  | inl t ↦ (
    [],
    omega arith,
    alike_stands l w i (record (l.servers i) { stopped = true }) h
        (record { node = refl; stopped = sym t; queue_is = refl; outbox = refl }),
  )
  | inr f ↦ stops_going l w i h f
]
