-- A server has published a step: what that leaves of the chain.
use Rattle.std.proofs.Common.{◌≡◌, ◌≢◌, ℕ, suc, false, cond, ◌∷◌, ◌++◌, None, Some, refl, inl, inr, ap, sym, ◌∙◌, subst}
use Rattle.std.proofs.lemmas.Bool.{cases_eq}
use Rattle.node.specs.declared.messages.Input.{Input}
use Rattle.node.specs.Steps.{step}
use Rattle.node.proofs.Lists.{In}
use Rattle.interleavings.specs.Chains.{RunningServer, Chain, with_at, with_running, messages_from, messages_to}
use Rattle.interleavings.specs.Chains.{calls_from}
use Rattle.interleavings.specs.Moves.{Publishes, published, publishing, done}
use Rattle.interleavings.proofs.steps.Acting.{act}
use Rattle.interleavings.proofs.lists.ChangedFunctions.{at_other, at_same, at_twice, kept_at}
use Rattle.interleavings.proofs.relation.StandsFor.{listed, queue, under_way}

-- the server, with nothing unpublished
abbrev pub freed : Chain → ℕ → Chain
freed l i = with_running l i (record (l.servers i) { unpublished = None })

-- server i, which took this input, has published its step
pub record StepIsPublished (l : Chain) (i : ℕ) (input : Input) : Type 0 where
  -- nothing but that is another:
  pub same_stopped : (k : ℕ) → ((freed l i).servers k).stopped ≡ (l.servers k).stopped
  pub same_node : (k : ℕ) → ((freed l i).servers k).node ≡ (l.servers k).node
  pub same_outbox : (k : ℕ) → ((freed l i).servers k).outbox ≡ (l.servers k).outbox
  pub went : (k : ℕ) → ((freed l i).servers k).stopped ≡ false → (l.servers k).stopped ≡ false
  -- the input was the first in its server's queue, and the other queues stay;
  pub queue_before : queue (l.servers i) ≡ input ∷ (l.servers i).inbox
  pub queue_after : queue ((freed l i).servers i) ≡ (l.servers i).inbox
  pub queue_other : (k : ℕ) → k ≢ i → queue ((freed l i).servers k) ≡ queue (l.servers k)
  pub in_after : (k : ℕ) (x : Input) → In x (queue ((freed l i).servers k)) → In x (queue (l.servers k))
  -- and so do the messages of each server and the calls of each seat that the input is none of.
  pub from_kept : (x : ℕ)
      → messages_from x (input ∷ (l.servers i).inbox) ≡ messages_from x (l.servers i).inbox
      → (y : ℕ)
      → messages_from x (queue (l.servers y)) ≡ messages_from x (queue ((freed l i).servers y))
  pub way_kept : (x y : ℕ)
      → messages_from x (queue (l.servers y)) ≡ messages_from x (queue ((freed l i).servers y))
      → under_way l x y ≡ under_way (freed l i) x y
  pub calls_kept : (c : ℕ)
      → calls_from c (input ∷ (l.servers i).inbox) ≡ calls_from c (l.servers i).inbox
      → (k : ℕ)
      → calls_from c (queue (l.servers k)) ≡ calls_from c (queue ((freed l i).servers k))

module _ (l : Chain) (i : ℕ) (input : Input) (unpublished : (l.servers i).unpublished ≡ Some input) where
  abbrev free_station : RunningServer
  free_station = record (l.servers i) { unpublished = None }

  same_stopped : (k : ℕ) → ((freed l i).servers k).stopped ≡ (l.servers k).stopped
  same_stopped k = kept_at (λ s. s.stopped) l.servers i free_station refl k

  same_node : (k : ℕ) → ((freed l i).servers k).node ≡ (l.servers k).node
  same_node k = kept_at (λ s. s.node) l.servers i free_station refl k

  same_outbox : (k : ℕ) → ((freed l i).servers k).outbox ≡ (l.servers k).outbox
  same_outbox k = kept_at (λ s. s.outbox) l.servers i free_station refl k

  queue_before : queue (l.servers i) ≡ input ∷ (l.servers i).inbox
  queue_before = ap (λ t. listed t ++ (l.servers i).inbox) unpublished

  queue_after : queue ((freed l i).servers i) ≡ (l.servers i).inbox
  queue_after = ap queue (at_same l.servers i free_station)

  queue_other : (k : ℕ) → k ≢ i → queue ((freed l i).servers k) ≡ queue (l.servers k)
  queue_other k other = ap queue (at_other l.servers i free_station k other)

  in_after : (k : ℕ) (x : Input) → In x (queue ((freed l i).servers k)) → In x (queue (l.servers k))
  in_after k x g = elim (cases_eq k i) [
    | inl same ↦ rw (same, queue_before) (let f = rw (same, queue_after) at g in (suc f.0, f.1))
    | inr other ↦ subst (λ q. In x q) (queue_other k other) g
  ]

  -- the messages of server x that wait at each server, if the input is none of them
  from_kept : (x : ℕ)
      → messages_from x (input ∷ (l.servers i).inbox) ≡ messages_from x (l.servers i).inbox
      → (y : ℕ)
      → messages_from x (queue (l.servers y)) ≡ messages_from x (queue ((freed l i).servers y))
  from_kept x e y = elim (cases_eq y i) [
    | inl same ↦ rw same (ap (messages_from x) queue_before ∙ e ∙ ap (messages_from x) (sym queue_after))
    | inr other ↦ ap (messages_from x) (sym (queue_other y other))
  ]

  way_kept : (x y : ℕ)
      → messages_from x (queue (l.servers y)) ≡ messages_from x (queue ((freed l i).servers y))
      → under_way l x y ≡ under_way (freed l i) x y
  way_kept x y e =
      ap (λ ms. ms ++ (l.channels x y ++ messages_to y (l.servers x).outbox)) e
      ∙ ap (λ os. messages_from x (queue ((freed l i).servers y)) ++ (l.channels x y ++ messages_to y os))
      (sym (same_outbox x))

  calls_kept : (c : ℕ)
      → calls_from c (input ∷ (l.servers i).inbox) ≡ calls_from c (l.servers i).inbox
      → (k : ℕ)
      → calls_from c (queue (l.servers k)) ≡ calls_from c (queue ((freed l i).servers k))
  calls_kept c e k = elim (cases_eq k i) [
    | inl same ↦ rw same (ap (calls_from c) queue_before ∙ e ∙ ap (calls_from c) (sym queue_after))
    | inr other ↦ ap (calls_from c) (sym (queue_other k other))
  ]

  went : (k : ℕ) → ((freed l i).servers k).stopped ≡ false → (l.servers k).stopped ≡ false
  went k e = sym (same_stopped k) ∙ e

  -- these are all
  pub step_is_published : StepIsPublished l i input
  step_is_published = record {
    same_stopped = same_stopped;
    same_node = same_node;
    same_outbox = same_outbox;
    went = went;
    queue_before = queue_before;
    queue_after = queue_after;
    queue_other = queue_other;
    in_after = in_after;
    from_kept = from_kept;
    way_kept = way_kept;
    calls_kept = calls_kept;
  }

  -- ---- what a publish makes of the chain

  published_is : (l.servers i).stopped ≡ false
      → publishing (l.servers i) ≡ record (l.servers i) {
        node = (step (l.servers i).node input).state;
        unpublished = None;
        outbox = (l.servers i).outbox ++ (step (l.servers i).node input).outputs;
      }
  published_is going = ap (λ b. cond b (l.servers i) (published (l.servers i) (l.servers i).unpublished)) going
      ∙ ap (published (l.servers i)) unpublished

  -- nothing is unpublished any more, and then the step is done
  pub publishes_is : (l.servers i).stopped ≡ false
      → done l (Publishes i) ≡ act (freed l i) i (step (l.servers i).node input)
  publishes_is going =
      let a = step (l.servers i).node input in
      ap (λ f. record l { servers = f }) (
      ap (with_at l.servers i) (published_is going)
      ∙ sym (at_twice l.servers i free_station _)
      ∙ ap (with_at (freed l i).servers i)
      (ap (λ (s : RunningServer). record s { node = a.state; outbox = s.outbox ++ a.outputs })
      (sym (at_same l.servers i free_station)))
      )
