-- What was taken from a queue is a beginning of what was put there.
use Rattle.std.proofs.Common.{◌≡◌, ℕ, Bool, true, false, true≢false, if◌then◌else◌, ◌==◌, List, [], ◌∷◌, ◌++◌, sym}
use Rattle.std.proofs.Common.{refl, ap, ◌∙◌, ⊎_elim}
use mathlib.Core.Option.{some}
use lib.ListN.{get_elem?}
use Rattle.rail.specs.declared.inbox_messages.InboxMessage.{InboxMessage}
use Rattle.rail.specs.declared.inbox_messages.Envelope.{Envelope}
use Rattle.rail.specs.declared.inbox.InboxKnowledge.{InboxKnowledge}
use Rattle.rail.specs.declared.reply_channels.ReplyKnowledge.{ReplyKnowledge}
use Rattle.rail.specs.Inbox.{Delivers, of, sender, taker}
use Rattle.rail.specs.NotedReplies.{Address, NotedReply}
use Rattle.rail.specs.ReplyMessages as reply_messages
use Rattle.rail.proofs.ReplyQueues.{address_in, address_out, not_new}

-- ---- of the inbox

one_inbox_message : (b : Bool) (e : InboxMessage) (xs ys : List InboxMessage)
    → (if b then e ∷ (xs ++ ys) else xs ++ ys) ≡ (if b then e ∷ xs else xs) ++ ys
one_inbox_message true e xs ys = refl
one_inbox_message false e xs ys = refl

-- what a sender sent of more messages
of-append : (p : ℕ) (xs ys : List Envelope) → of p (xs ++ ys) ≡ of p xs ++ of p ys
of-append p [] ys = refl
of-append p (m ∷ ms) ys =
    ap (λ (l : List InboxMessage). if p == m.from then m.inbox_message ∷ l else l) (of-append p ms ys)
    ∙ one_inbox_message (p == m.from) m.inbox_message (of p ms) (of p ys)

-- what a sender put is what was taken of it, and then what stands in the inbox
pub taken_of : (items : List Envelope) (views : List InboxKnowledge) (i j from own : ℕ) (put : List InboxMessage)
    (made ports : ℕ)
    (got : List Envelope)
    → Delivers items views
    → get_elem? views i ≡ some (sender from own put)
    → get_elem? views j ≡ some (taker made ports got)
    → put ≡ of from got ++ of from items
taken_of items views i j from own put made ports got h there here =
    let sent : put ≡ h.sent from = ((h.each i (sender from own put) there).0 refl).1 in
    let took : got ≡ h.got = ((h.each j (taker made ports got) here).1 refl).1 in
    sent
    ∙ (sym (h.order from)
    ∙ (ap (λ (l : List Envelope). of from (l ++ items)) (sym took) ∙ of-append from got items))

-- ---- of a seat's replies

-- the sender's pass knows where the replies are of, and all that were put
is_putter : (items : List NotedReply) (views : List ReplyKnowledge) (i : ℕ) (a : Address) (put : List NotedReply)
    (p : reply_messages.DeliversReplies items views)
    → get_elem? views i ≡ some (reply_messages.putter a put)
    → reply_messages.putter a put ≡ reply_messages.putter p.address p.put
is_putter items views i a put p at =
    ⊎_elim (λ (mine : (reply_messages.putter a put ≡ reply_messages.putter p.address p.put) × (i ≡ p.sender)). mine.0)
    (λ (other : (reply_messages.putter a put ≡ reply_messages.taker p.address p.taken) × (i ≡ p.receiver)). absurd
    (true≢false (ap (λ (y : ReplyKnowledge). y.puts) other.0)))
    (p.each i (reply_messages.putter a put) at)

-- the seat's knows the same, and all that were taken
is_taker : (items : List NotedReply) (views : List ReplyKnowledge) (j : ℕ) (b : Address) (got : List NotedReply)
    (p : reply_messages.DeliversReplies items views)
    → get_elem? views j ≡ some (reply_messages.taker b got)
    → reply_messages.taker b got ≡ reply_messages.taker p.address p.taken
is_taker items views j b got p at =
    ⊎_elim (λ (other : (reply_messages.taker b got ≡ reply_messages.putter p.address p.put) × (j ≡ p.sender)). absurd
    (true≢false (sym (ap (λ (y : ReplyKnowledge). y.puts) other.0))))
    (λ (mine : (reply_messages.taker b got ≡ reply_messages.taker p.address p.taken) × (j ≡ p.receiver)). mine.0)
    (p.each j (reply_messages.taker b got) at)

module _ (items : List NotedReply) (views : List ReplyKnowledge) (i j : ℕ) (a b : Address)
    (put got : List NotedReply) where
  -- what was put is what the seat took, and then what stands in its queue
  pub taken_from : reply_messages.IsReplyQueue items views
      → get_elem? views i ≡ some (reply_messages.putter a put)
      → get_elem? views j ≡ some (reply_messages.taker b got)
      → put ≡ got ++ items
  taken_from h there here =
      ⊎_elim (λ (new : (items ≡ []) × (views ≡ reply_messages.unknowing ∷ [])). absurd
      (not_new items views i (reply_messages.putter a put) refl there new.1))
      (λ (p : reply_messages.DeliversReplies items views).
      ap (λ (y : ReplyKnowledge). y.list) (is_putter items views i a put p there)
      ∙ (sym p.order
      ∙ ap (λ (y : ReplyKnowledge). y.list ++ items) (sym (is_taker items views j b got p here))))
      h

  -- both are at one address
  pub same_address : reply_messages.IsReplyQueue items views
      → get_elem? views i ≡ some (reply_messages.putter a put)
      → get_elem? views j ≡ some (reply_messages.taker b got)
      → a ≡ b
  same_address h there here =
      ⊎_elim (λ (new : (items ≡ []) × (views ≡ reply_messages.unknowing ∷ [])). absurd
      (not_new items views i (reply_messages.putter a put) refl there new.1))
      (λ (p : reply_messages.DeliversReplies items views).
      address_in a p.address put p.put (is_putter items views i a put p there)
      ∙ sym (address_out b p.address got p.taken (is_taker items views j b got p here)))
      h
