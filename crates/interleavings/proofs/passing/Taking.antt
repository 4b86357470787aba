-- A server takes an input from its inbox.
use Rattle.std.proofs.Common.{◌≡◌, ℕ, false, cond, ◌++◌, Option, None, Some, refl, ap, sym, ◌∙◌, subst, inl, inr}
use Rattle.std.specs.Prelude.{is_some}
use Rattle.std.proofs.lemmas.Bool.{cases_eq, cond_both}
use Rattle.node.specs.declared.messages.Input.{Input}
use Rattle.node.specs.declared.messages.Input.TheVariants.{Gone}
use Rattle.node.proofs.Lists.{In}
use Rattle.world.specs.Worlds.{World}
use Rattle.interleavings.specs.Chains.{RunningServer, Chain, with_at, with_running, messages_from, messages_to}
use Rattle.interleavings.specs.Chains.{calls_from, replies_to, Sender, first_of, without_first_of}
use Rattle.interleavings.specs.Moves.{Takes, took, done}
use Rattle.interleavings.proofs.passing.Alike.{IsAlike, alike_itself, alike_stands}
use Rattle.interleavings.proofs.passing.Passes.{Passes, passes}
use Rattle.interleavings.proofs.relation.StandsFor.{StandsFor, listed, queue, sits_still}
use Rattle.interleavings.proofs.lists.ChangedFunctions.{at_other, at_same, kept_at}
use Rattle.interleavings.proofs.lists.FirstOf.{calls_picked, from_picked, in_picked}

module _ (l : Chain) (w : World) (i : ℕ) (sender : Sender) (h : StandsFor l w) (x : Input)
    (free : (l.servers i).unpublished ≡ None) (first : first_of sender (l.servers i).inbox ≡ Some x) where
  abbrev busy : RunningServer
  busy = record (l.servers i) { inbox = without_first_of sender (l.servers i).inbox; unpublished = Some x }

  free_queue : queue (l.servers i) ≡ (l.servers i).inbox
  free_queue = ap (λ t. listed t ++ (l.servers i).inbox) free

  busy_passes : Passes w l (with_running l i busy)
  busy_passes = record {
    count = refl;
    stopped = λ k. kept_at (λ s. s.stopped) l.servers i busy refl k;
    node = λ k. kept_at (λ s. s.node) l.servers i busy refl k;
    ways = λ a b. ap (λ ms. ms ++ (l.channels a b ++ messages_to b (with_at l.servers i busy a).outbox))
        (kept_at (λ s. messages_from a (queue s)) l.servers i busy
        (from_picked sender a x (l.servers i).inbox first ∙ ap (messages_from a) (sym free_queue)) b)
        ∙ ap (λ os. messages_from a (queue (l.servers b)) ++ (l.channels a b ++ messages_to b os))
        (kept_at (λ s. s.outbox) l.servers i busy refl a);
    calls = λ k c e. kept_at (λ s. calls_from c (queue s)) l.servers i busy
        (calls_picked sender c x (l.servers i).inbox first ∙ ap (calls_from c) (sym free_queue)) k;
    replies = λ k c. kept_at (λ s. replies_to c s.outbox) l.servers i busy refl k;
    notices = λ k j g. inl (elim (cases_eq k i) [
      | inl at ↦ subst (λ n. In (Gone j) (queue (l.servers n))) (sym at) (subst (λ q. In (Gone j) q) (sym free_queue)
          (in_picked sender x (Gone j) (l.servers i).inbox first
          (subst (λ s. In (Gone j) (queue s)) (at_same l.servers i busy)
          (subst (λ n. In (Gone j) (queue (with_at l.servers i busy n))) at g))))
      | inr other ↦ subst (λ s. In (Gone j) (queue s)) (at_other l.servers i busy k other) g
    ]);
    seats = λ c g. sits_still w l (with_running l i busy) (λ k. kept_at (λ s. s.stopped) l.servers i busy refl k) _
        (l.seats c) g;
  }

stays : (l : Chain) (w : World) (i : ℕ) (t : RunningServer)
    → StandsFor l w
    → t ≡ l.servers i
    → StandsFor (with_running l i t) w
stays l w i t h same = alike_stands l w i t h
    (subst (λ s. IsAlike (l.servers i) s) (sym same) (alike_itself (l.servers i)))

took_stands : (l : Chain) (w : World) (i : ℕ) (sender : Sender)
    → StandsFor l w
    → (l.servers i).unpublished ≡ None
    → (o : Option Input)
    → first_of sender (l.servers i).inbox ≡ o
    → StandsFor (with_running l i (took (l.servers i) sender o)) w
took_stands l w i sender h free None e = stays l w i (l.servers i) h refl
took_stands l w i sender h free (Some x) e = passes w l _ h (busy_passes l w i sender h x free e)

-- what isn't some is none
pub none_of : {X : Type 0} (o : Option X) → is_some o ≡ false → o ≡ None
none_of None e = refl
none_of (Some x) e = absurd cc

-- an input is taken: no event
pub takes_stands : (l : Chain) (w : World) (i : ℕ) (sender : Sender)
    → StandsFor l w
    → StandsFor (done l (Takes i sender)) w
takes_stands l w i sender h =
    let s = l.servers i in
    let t = took s sender (first_of sender s.inbox) in
    cond_both s.stopped s (cond (is_some s.unpublished) s t) (λ u. StandsFor (with_running l i u) w)
    (λ over. stays l w i s h refl)
    (λ going. cond_both (is_some s.unpublished) s t (λ u. StandsFor (with_running l i u) w)
    (λ busy. stays l w i s h refl)
    (λ free. took_stands l w i sender h (none_of s.unpublished free) (first_of sender s.inbox) refl))
