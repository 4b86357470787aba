-- A server that becomes another one like it: what stands for the chain still does.
use Rattle.std.proofs.Common.{◌≡◌, ℕ, false, ◌++◌, refl, ap, sym, ◌∙◌, subst}
use Rattle.std.specs.Prelude.{not}
use Rattle.node.specs.declared.messages.Input.TheVariants.{Gone}
use Rattle.node.proofs.Lists.{In}
use Rattle.world.specs.Worlds.{World}
use Rattle.interleavings.specs.Chains.{RunningServer, Chain, with_running, messages_from, messages_to, calls_from}
use Rattle.interleavings.specs.Chains.{replies_to}
use Rattle.interleavings.proofs.relation.StandsFor.{StandsFor, queue, sits_still, under_way}
use Rattle.interleavings.proofs.lists.ChangedFunctions.{kept_at}

-- a server that has the same queue, the same left to put, and is the same otherwise
pub record IsAlike (s t : RunningServer) : Type 0 where
  pub node : t.node ≡ s.node
  pub stopped : t.stopped ≡ s.stopped
  pub queue_is : queue t ≡ queue s
  pub outbox : t.outbox ≡ s.outbox

module _ (l : Chain) (w : World) (i : ℕ) (t : RunningServer) (h : StandsFor l w) (alike : IsAlike (l.servers i) t) where
  same_stopped : (k : ℕ) → ((with_running l i t).servers k).stopped ≡ (l.servers k).stopped
  same_stopped k = kept_at (λ s. s.stopped) l.servers i t alike.stopped k

  same_queue : (k : ℕ) → queue ((with_running l i t).servers k) ≡ queue (l.servers k)
  same_queue k = kept_at queue l.servers i t alike.queue_is k

  same_outbox : (k : ℕ) → ((with_running l i t).servers k).outbox ≡ (l.servers k).outbox
  same_outbox k = kept_at (λ s. s.outbox) l.servers i t alike.outbox k

  went : (k : ℕ) → ((with_running l i t).servers k).stopped ≡ false → (l.servers k).stopped ≡ false
  went k e = sym (same_stopped k) ∙ e

  way_alike : (x y : ℕ) → under_way l x y ≡ under_way (with_running l i t) x y
  way_alike x y =
      ap (λ q. messages_from x q ++ (l.channels x y ++ messages_to y (l.servers x).outbox)) (sym (same_queue y))
      ∙ ap (λ os. messages_from x (queue ((with_running l i t).servers y)) ++ (l.channels x y ++ messages_to y os))
      (sym (same_outbox x))

  -- what stood for the chain still does
  pub alike_stands : StandsFor (with_running l i t) w
  alike_stands = record {
    count = h.count;
    lives = λ k. h.lives k ∙ ap not (sym (same_stopped k));
    servers = λ k e. h.servers k (went k e) ∙ sym (kept_at (λ s. s.node) l.servers i t alike.node k);
    links = λ x y e. h.links x y (went y e) ∙ way_alike x y;
    calls = λ k c e. ap (calls_from c) (same_queue k) ∙ h.calls k c (went k e);
    replies = λ k c e. ap (replies_to c) (same_outbox k) ∙ h.replies k c (went k e);
    notices = λ k j g.
        (let f = h.notices k j (subst (λ q. In (Gone j) q) (same_queue k) g) in (f.0, same_stopped j ∙ f.1));
    seats = λ c. sits_still w l (with_running l i t) same_stopped _ (l.seats c) (h.seats c);
  }

-- a server is like itself
pub alike_itself : (s : RunningServer) → IsAlike s s
alike_itself s = record { node = refl; stopped = refl; queue_is = refl; outbox = refl }
