-- What the rule of an inbox comes to: what is taken next, of each port and of each server.
use Rattle.std.proofs.Common.{◌≡◌, ◌≢◌, ℕ, Bool, true, false, cond, List, [], ◌∷◌, ◌++◌, refl}
use Rattle.std.proofs.Common.{ap, sym, ◌∙◌, inl, inr, append_assoc, eq-eqb}
use Rattle.std.specs.Prelude.{◌==◌}
use Rattle.std.proofs.lemmas.Bool.{cases_eq, cases_lt, ne_eqb, or_parts}
use Rattle.std.proofs.lemmas.List.{append-nil}
use mathlib.Core.List.{IsPrefix}
use Rattle.node.specs.declared.messages.Input.{Input}
use Rattle.rail.specs.declared.inbox_messages.Envelope.{Envelope}
use Rattle.rail.specs.declared.inbox_messages.InboxMessage.{InboxMessage}
use Rattle.rail.specs.Inbox.{of, taker}
use Rattle.rail.proofs.Beginnings.{taken_of}
use Rattle.local_histories.specs.Events.{Event, Sent, Brought, Taken, Shown, Put, Answered, HandedBack, Got, Looked}
use Rattle.local_histories.specs.Events.{Halted, Broke}
use Rattle.local_histories.specs.Objects.{OpenedChain, gathered, only_if, sent_by, inputs_in}
use Rattle.local_histories.specs.Objects.{message_from, all_messages_from, takes, taken_by}
use Rattle.local_histories.specs.Objects.{is_halt, has_halted}
use Rattle.local_histories.specs.LocalRules.{HasInbox}
use Rattle.local_histories.specs.Standing.{before_halt, takes_input, given_to}
use Rattle.local_histories.specs.Following.{GoesOnWith}

-- ---- lists

pub both_empty : {X : Type 0} (xs ys : List X) → xs ++ ys ≡ [] → (xs ≡ []) × (ys ≡ [])
both_empty [] ys e = (refl, e)
both_empty (x ∷ xs) ys e = absurd cc

-- what came of a sender, with one message more
of_more : (k : ℕ) (xs : List Envelope) (m : Envelope)
    → of k (xs ++ m ∷ []) ≡ of k xs ++ only_if (k == m.from) m.inbox_message
of_more k [] m = refl
of_more k (x ∷ xs) m = by (k == x.from) (of_more k xs m)
  where
    by : (b : Bool) → of k (xs ++ m ∷ []) ≡ of k xs ++ only_if (k == m.from) m.inbox_message
        → cond b (x.inbox_message ∷ of k (xs ++ m ∷ [])) (of k (xs ++ m ∷ []))
        ≡ cond b (x.inbox_message ∷ of k xs) (of k xs) ++ only_if (k == m.from) m.inbox_message
    by true f = ap (λ ms. x.inbox_message ∷ ms) f
    by false f = f

pub of_both : (k : ℕ) (xs ys : List Envelope) → of k (xs ++ ys) ≡ of k xs ++ of k ys
of_both k [] ys = refl
of_both k (x ∷ xs) ys = by (k == x.from) (of_both k xs ys)
  where
    by : (b : Bool) → of k (xs ++ ys) ≡ of k xs ++ of k ys
        → cond b (x.inbox_message ∷ of k (xs ++ ys)) (of k (xs ++ ys))
        ≡ cond b (x.inbox_message ∷ of k xs) (of k xs) ++ of k ys
    by true f = ap (λ ms. x.inbox_message ∷ ms) f
    by false f = f

-- the inputs among inbox messages
abbrev pub all_inputs : List InboxMessage → List Input
all_inputs [] = []
all_inputs (m ∷ ms) = inputs_in m ++ all_inputs ms

pub all_inputs-append : (xs ys : List InboxMessage) → all_inputs (xs ++ ys) ≡ all_inputs xs ++ all_inputs ys
all_inputs-append [] ys = refl
all_inputs-append (x ∷ xs) ys = ap (λ zs. inputs_in x ++ zs) (all_inputs-append xs ys)
    ∙ sym (append_assoc (inputs_in x) (all_inputs xs) (all_inputs ys))

-- messages without their senders
abbrev pub messages_in : List Envelope → List InboxMessage
messages_in [] = []
messages_in (m ∷ ms) = m.inbox_message ∷ messages_in ms

messages_in-append : (xs ys : List Envelope) → messages_in (xs ++ ys) ≡ messages_in xs ++ messages_in ys
messages_in-append [] ys = refl
messages_in-append (x ∷ xs) ys = ap (λ zs. x.inbox_message ∷ zs) (messages_in-append xs ys)

pub all_messages_from-append : (j : ℕ) (xs ys : List Input)
    → all_messages_from j (xs ++ ys) ≡ all_messages_from j xs ++ all_messages_from j ys
all_messages_from-append j [] ys = refl
all_messages_from-append j (x ∷ xs) ys = ap (λ zs. message_from j x ++ zs) (all_messages_from-append j xs ys)
    ∙ sym (append_assoc (message_from j x) (all_messages_from j xs) (all_messages_from j ys))

-- ---- of one sender

-- what was taken of a sender is a beginning of what it sent
pub begins_sent : (s : OpenedChain) (i : ℕ) (es : List Event) (k : ℕ)
    → HasInbox s i es
    → IsPrefix (of k (taken_by i es)) (sent_by i k es)
begins_sent s i es k h = elim (cases_lt k h.made) [
  | inl below ↦
      let at = h.sends k below in (
        of k h.items,
        sym (taken_of h.items h.views at.0 h.receiver k at.1 (sent_by i k es) h.made h.ports (taken_by i es)
            h.rule at.2 h.takes),
      )
  | inr above ↦
      let mine = (h.rule.each h.receiver (taker h.made h.ports (taken_by i es)) h.takes).1 refl in
      let nothing : of k (h.rule.got ++ h.items) ≡ [] = h.rule.order k ∙ (mine.3 k above).1 in
      let none : of k (taken_by i es) ≡ [] =
      ap (of k) mine.1 ∙ (both_empty (of k h.rule.got) (of k h.items)
      (sym (of_both k h.rule.got h.items) ∙ nothing)).0 in
      ([], append-nil (of k (taken_by i es)) ∙ none ∙ sym (h.others k above))
]

-- what is taken next of a sender is what it sent next
pub next_sent : (s : OpenedChain) (i : ℕ) (es : List Event) (m : Envelope)
    → HasInbox s i (es ++ Taken i m ∷ [])
    → sent_by i m.from (es ++ Taken i m ∷ []) ≡ sent_by i m.from es
    → taken_by i (es ++ Taken i m ∷ []) ≡ taken_by i es ++ m ∷ []
    → GoesOnWith (of m.from (taken_by i es)) m.inbox_message (sent_by i m.from es)
next_sent s i es m h sent taken =
    let front = begins_sent s i (es ++ Taken i m ∷ []) m.from h in (
      front.0,
      sym sent ∙ sym front.1
          ∙ ap (λ xs. xs ++ front.0) (ap (of m.from) taken ∙ of_more m.from (taken_by i es) m
          ∙ ap (λ b. of m.from (taken_by i es) ++ only_if b m.inbox_message) (eq-eqb m.from m.from refl))
          ∙ append_assoc (of m.from (taken_by i es)) (m.inbox_message ∷ []) front.0,
    )

-- ---- what a server is given

taken_inputs : (i : ℕ) (e : Event) → takes_input i e ≡ all_inputs (messages_in (takes i e))
taken_inputs i (Sent h k port call) = refl
taken_inputs i (Brought h k message) = refl
taken_inputs i (Taken h envelope) = by (h == i)
  where
    by : (b : Bool) → cond b (inputs_in envelope.inbox_message) [] ≡ all_inputs (messages_in (only_if b envelope))
    by true = sym (append-nil (inputs_in envelope.inbox_message))
    by false = refl
taken_inputs i (Shown h input) = refl
taken_inputs i (Put h j peer) = refl
taken_inputs i (Answered h reply) = refl
taken_inputs i (HandedBack h port) = refl
taken_inputs i (Got h reply) = refl
taken_inputs i (Looked h q key stood) = refl
taken_inputs i (Halted h) = refl
taken_inputs i (Broke h j) = refl

-- a server that goes on is given all that it took
pub given_is_taken : (i : ℕ) (es : List Event)
    → has_halted i es ≡ false
    → given_to i es ≡ all_inputs (messages_in (taken_by i es))
given_is_taken i [] going = refl
given_is_taken i (x ∷ xs) going =
    let parts = or_parts (is_halt i x) (has_halted i xs) going in
    ap (λ b. gathered (takes_input i) (cond b [] (x ∷ before_halt i xs))) parts.0
    ∙ ap (λ ys. ys ++ given_to i xs) (taken_inputs i x)
    ∙ ap (λ ys. all_inputs (messages_in (takes i x)) ++ ys) (given_is_taken i xs parts.1)
    ∙ sym (all_inputs-append (messages_in (takes i x)) (messages_in (taken_by i xs)))
    ∙ ap all_inputs (sym (messages_in-append (takes i x) (taken_by i xs)))

-- ---- what one sender alone sends

module _ {X : Type 0} (view : List Input → List X) (empty : view [] ≡ [])
    (both : (xs ys : List Input) → view (xs ++ ys) ≡ view xs ++ view ys) where
  -- if only sender k0 brings what is seen, it is what was taken of that sender
  pub one_taker : (k0 : ℕ) (ms : List Envelope)
      → ((k : ℕ) → k0 ≢ k → view (all_inputs (of k ms)) ≡ [])
      → view (all_inputs (messages_in ms)) ≡ view (all_inputs (of k0 ms))
  one_taker k0 [] none = refl
  one_taker k0 (m ∷ ms) none = elim (cases_eq k0 m.from) [
    | inl same ↦
        let rest = one_taker k0 ms (λ k other.
        ap (λ b. view (all_inputs (cond b (m.inbox_message ∷ of k ms) (of k ms))))
        (sym (ne_eqb k m.from (λ f. other (same ∙ sym f)))) ∙ none k other) in
        both (inputs_in m.inbox_message) (all_inputs (messages_in ms))
        ∙ ap (λ ys. view (inputs_in m.inbox_message) ++ ys) rest
        ∙ sym (both (inputs_in m.inbox_message) (all_inputs (of k0 ms)))
        ∙ ap (λ b. view (all_inputs (cond b (m.inbox_message ∷ of k0 ms) (of k0 ms))))
        (sym (eq-eqb k0 m.from same))
    | inr other ↦
        let parts = both_empty (view (inputs_in m.inbox_message)) (view (all_inputs (of m.from ms)))
        (sym (both (inputs_in m.inbox_message) (all_inputs (of m.from ms)))
        ∙ ap (λ b. view (all_inputs (cond b (m.inbox_message ∷ of m.from ms) (of m.from ms))))
        (sym (eq-eqb m.from m.from refl)) ∙ none m.from other) in
        let rest = one_taker k0 ms (λ k away. elim (cases_eq k m.from) [
          | inl at ↦ ap (λ x. view (all_inputs (of x ms))) at ∙ parts.1
          | inr off ↦ ap (λ b. view (all_inputs (cond b (m.inbox_message ∷ of k ms) (of k ms))))
              (sym (ne_eqb k m.from off)) ∙ none k away
        ]) in
        both (inputs_in m.inbox_message) (all_inputs (messages_in ms))
        ∙ ap (λ ys. ys ++ view (all_inputs (messages_in ms))) parts.0
        ∙ rest
        ∙ ap (λ b. view (all_inputs (cond b (m.inbox_message ∷ of k0 ms) (of k0 ms))))
        (sym (ne_eqb k0 m.from other))
  ]

  -- what is seen of the messages of the sender of the next one
  pub next_seen : (front : List InboxMessage) (m : InboxMessage) (whole : List InboxMessage)
      → GoesOnWith front m whole
      → (rest : List X) × (view (all_inputs whole) ≡ view (all_inputs front) ++ (view (inputs_in m) ++ rest))
  next_seen front m whole next = (
    view (all_inputs next.0),
    ap (λ ms. view (all_inputs ms)) next.1 ∙ ap view (all_inputs-append front (m ∷ next.0))
        ∙ both (all_inputs front) (inputs_in m ++ all_inputs next.0)
        ∙ ap (λ xs. view (all_inputs front) ++ xs) (both (inputs_in m) (all_inputs next.0)),
  )
