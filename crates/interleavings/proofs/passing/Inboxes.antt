-- An input comes into an inbox.
use Rattle.std.proofs.Common.{◌≡◌, ◌≢◌, ℕ, [], ◌∷◌, ◌++◌, refl, ap, sym, ◌∙◌, subst, ◌⊎◌, inl, inr, append_assoc}
use Rattle.std.proofs.Common.{append-nil}
use Rattle.std.proofs.lemmas.Bool.{cases_eq}
use Rattle.node.specs.declared.messages.Input.{Input}
use Rattle.node.proofs.Lists.{In, in_pushed}
use Rattle.interleavings.specs.Chains.{RunningServer, Chain, messages_from, calls_from}
use Rattle.interleavings.specs.Moves.{brought}
use Rattle.interleavings.proofs.lists.ChangedFunctions.{at_other, at_same, kept_at}
use Rattle.interleavings.proofs.lists.Joined.{calls_from-append, messages_from-append}
use Rattle.interleavings.proofs.relation.StandsFor.{listed, queue}

module _ (l : Chain) (i : ℕ) (input : Input) where
  abbrev fuller : RunningServer
  fuller = record (l.servers i) { inbox = (l.servers i).inbox ++ input ∷ [] }

  -- who goes on, every node and every outbox stay;
  pub brought_stopped : (k : ℕ) → ((brought l i input).servers k).stopped ≡ (l.servers k).stopped
  brought_stopped k = kept_at (λ s. s.stopped) l.servers i fuller refl k

  pub brought_node : (k : ℕ) → ((brought l i input).servers k).node ≡ (l.servers k).node
  brought_node k = kept_at (λ s. s.node) l.servers i fuller refl k

  pub brought_outbox : (k : ℕ) → ((brought l i input).servers k).outbox ≡ (l.servers k).outbox
  brought_outbox k = kept_at (λ s. s.outbox) l.servers i fuller refl k

  -- the input is the last one of that queue, and the other queues stay;
  pub queue_brought : queue ((brought l i input).servers i) ≡ queue (l.servers i) ++ input ∷ []
  queue_brought = ap queue (at_same l.servers i fuller)
      ∙ sym (append_assoc (listed (l.servers i).unpublished) (l.servers i).inbox (input ∷ []))

  pub queue_apart : (k : ℕ) → k ≢ i → queue ((brought l i input).servers k) ≡ queue (l.servers k)
  queue_apart k other = ap queue (at_other l.servers i fuller k other)

  -- who sends nothing by this input has sent as much as before
  pub from_brought : (x : ℕ)
      → messages_from x (input ∷ []) ≡ []
      → (y : ℕ)
      → messages_from x (queue ((brought l i input).servers y)) ≡ messages_from x (queue (l.servers y))
  from_brought x none y = elim (cases_eq y i) [
    | inl same ↦ rw same (ap (messages_from x) queue_brought ∙ messages_from-append x (queue (l.servers i)) (input ∷ [])
        ∙ ap (λ ms. messages_from x (queue (l.servers i)) ++ ms) none
        ∙ append-nil (messages_from x (queue (l.servers i))))
    | inr other ↦ ap (messages_from x) (queue_apart y other)
  ]

  -- likewise calls
  pub calls_brought : (c : ℕ)
      → calls_from c (input ∷ []) ≡ []
      → (k : ℕ)
      → calls_from c (queue ((brought l i input).servers k)) ≡ calls_from c (queue (l.servers k))
  calls_brought c none k = elim (cases_eq k i) [
    | inl same ↦ rw same (ap (calls_from c) queue_brought ∙ calls_from-append c (queue (l.servers i)) (input ∷ [])
        ∙ ap (λ ms. calls_from c (queue (l.servers i)) ++ ms) none ∙ append-nil (calls_from c (queue (l.servers i))))
    | inr other ↦ ap (calls_from c) (queue_apart k other)
  ]

  -- what stands in a queue stood there before, or is the input
  pub in_brought : (k : ℕ) (x : Input)
      → In x (queue ((brought l i input).servers k))
      → In x (queue (l.servers k)) ⊎ (x ≡ input)
  in_brought k x g = elim (cases_eq k i) [
    | inl same ↦ subst (λ n. In x (queue (l.servers n)) ⊎ (x ≡ input)) (sym same)
        (in_pushed (queue (l.servers i)) input x
        (subst (λ q. In x q) queue_brought (subst (λ n. In x (queue ((brought l i input).servers n))) same g)))
    | inr other ↦ inl (subst (λ q. In x q) (queue_apart k other) g)
  ]
