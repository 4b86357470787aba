-- Each event keeps the streams between servers, and they stand at the outset.
use Rattle.std.proofs.Common.{ℕ, ◌<◌, List, refl, sym, ap, subst, ◌∙◌, arith, inl, inr}
use Rattle.std.proofs.lemmas.Bool.{cases_eq, both_ways, false_from_ne_true}
use Rattle.versions.specs.Stores.{last_number}
use Rattle.node.specs.declared.messages.Input.{Input}
use Rattle.node.specs.Views.{has}
use Rattle.node.specs.Servers.{ServerState, predecessor_of, successor_of}
use Rattle.world.specs.Worlds.{World}
use Rattle.world.proofs.trace.Traces.{Traced, count, outset}
use Rattle.world.proofs.trace.Outsets.{count_outset, server_outset, link_outset}
use Rattle.world.proofs.streams.Streaming.{numbers, Linked, Stream, LinkedBack, IsTold, Streaming}
use Rattle.world.proofs.streams.ForwardRuns.{run_as}
use Rattle.world.proofs.streams.Stepped.{IsStill, Stepped, Effect, Stands, Steps, Follows}
use Rattle.world.proofs.streams.StreamSteps.{forwards_other, forwards_own, acks_other, acks_own}
use Rattle.world.proofs.streams.StreamDeliveries.{forwards_delivered, acks_delivered}

streaming_still : (w w' : World) → IsStill w w' → Streaming w → Streaming w'
streaming_still w w' h s = record {
  forwards = λ x y l.
      let r = s.forwards x y (record {
        here = rw (← h.count) l.here;
        inside = rw (← h.count) l.inside;
        successor = ap (λ v. successor_of v) (sym (h.servers x)) ∙ l.successor;
        unaware = ap (λ v. has v.view x) (sym (h.servers y)) ∙ l.unaware;
        alive = false_from_ne_true _ (λ e. both_ways _ l.alive (h.failed y e));
      }) in
      record {
        from = r.from;
        reached = omega (arith, r.reached, ap (λ v. last_number v.store) (h.servers y));
        run = run_as r.from r.from _ _ _ _ refl (ap (λ v. last_number v.store) (h.servers x))
            (ap (λ ms. numbers ms) (h.links x y)) r.run;
      };
  acks = λ x y l.
      elim (s.acks x y (record {
        here = rw (← h.count) l.here;
        inside = rw (← h.count) l.inside;
        predecessor = ap (λ v. predecessor_of v) (sym (h.servers y)) ∙ l.predecessor;
        unaware = ap (λ v. has v.view y) (sym (h.servers x)) ∙ l.unaware;
        alive = false_from_ne_true _ (λ e. both_ways _ l.alive (h.failed x e));
      })) [
        | inl low ↦ inl (omega
            (arith, low, ap (λ v. v.store.acked) (h.servers y), ap (λ v. v.store.acked) (h.servers x)))
        | inr g ↦ inr (g.0, g.1, rw (h.links y x) g.2, g.3, omega (arith, g.4, ap (λ v. v.store.acked) (h.servers y)))
      ];
}

module _ (t u : Traced) (h : Follows t u) (streaming : Streaming t.world) where
  streaming_step : (a : ℕ) (input : Input) → Stepped t.world u.world a input → Streaming u.world
  streaming_step a input p = record {
    forwards = λ x y. elim (cases_eq x a) [
      | inl own ↦ subst (λ z. Linked u.world z y → Stream u.world z y) (sym own)
          (forwards_own t u h a input p y (streaming.forwards a y))
      | inr other ↦ elim (p.links x y other) [
        | inl same ↦ forwards_other t u h a input p x y other same (streaming.forwards x y)
        | inr took ↦ subst (λ z. Linked u.world x z → Stream u.world x z) (sym took.0)
            (forwards_delivered t u h x a took.1 (subst (λ i. Stepped t.world u.world a i) took.3 p) took.2
            (streaming.forwards x a))
      ]
    ];
    acks = λ x y. elim (cases_eq y a) [
      | inl own ↦ subst (λ z. LinkedBack u.world x z → IsTold u.world x z) (sym own)
          (acks_own t u h a input p x (streaming.acks x a))
      | inr other ↦ elim (p.links y x other) [
        | inl same ↦ acks_other t u h a input p x y other same (streaming.acks x y)
        | inr took ↦ subst (λ z. LinkedBack u.world z y → IsTold u.world z y) (sym took.0)
            (acks_delivered t u h y a took.1 (subst (λ i. Stepped t.world u.world a i) took.3 p) took.2
            (streaming.acks a y))
      ]
    ];
  }

  -- each event keeps them
  pub streaming_happens : Effect t.world u.world → Streaming u.world
  streaming_happens (Stands still) = streaming_still t.world u.world still streaming
  streaming_happens (Steps a input p) = streaming_step a input p

-- ---- the outset

-- the streams stand before any event, when no server has anything to send
pub streaming_outset : (n : ℕ) (homes : List ℕ) → Streaming (outset n homes).world
streaming_outset n homes =
    let t = outset n homes in
    let store = λ (i : ℕ) (l : i < count t). ap (λ (s : ServerState). s.store)
    (server_outset n homes i (rw (count_outset n homes) at l)) in
    record {
      forwards = λ x y l. record {
        from = 0;
        reached = omega arith;
        run = rw (store x l.here, link_outset n homes x y) refl;
      };
      acks = λ x y l. inl (omega (arith, ap (λ s. s.acked) (store y l.inside)));
    }
