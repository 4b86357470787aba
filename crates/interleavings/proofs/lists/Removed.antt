-- What is left of outputs without the first message to a server, and without the first reply to a seat.
use Rattle.std.proofs.Common.{◌≡◌, ◌≢◌, ℕ, Bool, true, false, cond, List, [], ◌∷◌, refl, ap, sym, ◌∙◌}
use Rattle.std.specs.Prelude.{◌==◌}
use Rattle.std.proofs.lemmas.Bool.{ne_eqb, eqb-true}
use Rattle.table.specs.declared.operations.Reply.{Reply}
use Rattle.node.specs.declared.messages.Peer.{Peer}
use Rattle.node.specs.declared.messages.Output.{Output}
use Rattle.node.specs.declared.messages.Output.TheVariants.{To, Reply as Answered}
use Rattle.interleavings.specs.Chains.{messages_to, without_message, replies_to, without_reply}

-- ---- without a message

-- messages to another server
pub others_without_message : (j y : ℕ) (os : List Output)
    → y ≢ j
    → messages_to y (without_message j os) ≡ messages_to y os
others_without_message j y [] other = refl
others_without_message j y (To to m ∷ os) other = by (to == j) refl (others_without_message j y os other)
  where
    by : (b : Bool) → (to == j) ≡ b → messages_to y (without_message j os) ≡ messages_to y os
        → messages_to y (cond b os (To to m ∷ without_message j os))
        ≡ cond (to == y) (m ∷ messages_to y os) (messages_to y os)
    by true is e = sym (ap (λ b. cond b (m ∷ messages_to y os) (messages_to y os))
        (ne_eqb to y (λ f. other (sym f ∙ eqb-true to j is))))
    by false is e = ap (λ ms. cond (to == y) (m ∷ ms) ms) e
others_without_message j y (Answered c reply ∷ os) other = others_without_message j y os other

-- messages to that server: the others
pub messages_without_first : (j : ℕ) (os : List Output) (first : Peer) (more : List Peer)
    → messages_to j os ≡ first ∷ more
    → messages_to j (without_message j os) ≡ more
messages_without_first j [] first more e = absurd cc
messages_without_first j (Answered c reply ∷ os) first more e = messages_without_first j os first more e
messages_without_first j (To to m ∷ os) first more e = by (to == j) refl e (messages_without_first j os first more)
  where
    by : (b : Bool) → (to == j) ≡ b
        → cond b (m ∷ messages_to j os) (messages_to j os) ≡ first ∷ more
        → (messages_to j os ≡ first ∷ more → messages_to j (without_message j os) ≡ more)
        → messages_to j (cond b os (To to m ∷ without_message j os)) ≡ more
    by true is g f = cc
    by false is g f = ap (λ b. cond b (m ∷ messages_to j (without_message j os))
        (messages_to j (without_message j os))) is
        ∙ f g

-- replies
pub replies_without_message : (j c : ℕ) (os : List Output) → replies_to c (without_message j os) ≡ replies_to c os
replies_without_message j c [] = refl
replies_without_message j c (To to m ∷ os) = by (to == j) (replies_without_message j c os)
  where
    by : (b : Bool) → replies_to c (without_message j os) ≡ replies_to c os
        → replies_to c (cond b os (To to m ∷ without_message j os)) ≡ replies_to c os
    by true e = refl
    by false e = e
replies_without_message j c (Answered d reply ∷ os) = by (d == c) (replies_without_message j c os)
  where
    by : (b : Bool) → replies_to c (without_message j os) ≡ replies_to c os
        → cond b (reply ∷ replies_to c (without_message j os)) (replies_to c (without_message j os))
        ≡ cond b (reply ∷ replies_to c os) (replies_to c os)
    by true e = ap (λ rs. reply ∷ rs) e
    by false e = e

-- ---- without a reply

-- messages
pub messages_without_reply : (c y : ℕ) (os : List Output) → messages_to y (without_reply c os) ≡ messages_to y os
messages_without_reply c y [] = refl
messages_without_reply c y (To to m ∷ os) = by (to == y) (messages_without_reply c y os)
  where
    by : (b : Bool) → messages_to y (without_reply c os) ≡ messages_to y os
        → cond b (m ∷ messages_to y (without_reply c os)) (messages_to y (without_reply c os))
        ≡ cond b (m ∷ messages_to y os) (messages_to y os)
    by true e = ap (λ ms. m ∷ ms) e
    by false e = e
messages_without_reply c y (Answered d reply ∷ os) = by (d == c) (messages_without_reply c y os)
  where
    by : (b : Bool) → messages_to y (without_reply c os) ≡ messages_to y os
        → messages_to y (cond b os (Answered d reply ∷ without_reply c os)) ≡ messages_to y os
    by true e = refl
    by false e = e

-- replies to another seat
pub others_without_reply : (c x : ℕ) (os : List Output) → x ≢ c → replies_to x (without_reply c os) ≡ replies_to x os
others_without_reply c x [] other = refl
others_without_reply c x (To to m ∷ os) other = others_without_reply c x os other
others_without_reply c x (Answered d reply ∷ os) other = by (d == c) refl (others_without_reply c x os other)
  where
    by : (b : Bool) → (d == c) ≡ b → replies_to x (without_reply c os) ≡ replies_to x os
        → replies_to x (cond b os (Answered d reply ∷ without_reply c os))
        ≡ cond (d == x) (reply ∷ replies_to x os) (replies_to x os)
    by true is e = sym (ap (λ b. cond b (reply ∷ replies_to x os) (replies_to x os))
        (ne_eqb d x (λ f. other (sym f ∙ eqb-true d c is))))
    by false is e = ap (λ rs. cond (d == x) (reply ∷ rs) rs) e

-- replies to that seat: the others
pub replies_without_first : (c : ℕ) (os : List Output) (first : Reply) (more : List Reply)
    → replies_to c os ≡ first ∷ more
    → replies_to c (without_reply c os) ≡ more
replies_without_first c [] first more e = absurd cc
replies_without_first c (To to m ∷ os) first more e = replies_without_first c os first more e
replies_without_first c (Answered d reply ∷ os) first more e = by (d == c) refl e
    (replies_without_first c os first more)
  where
    by : (b : Bool) → (d == c) ≡ b
        → cond b (reply ∷ replies_to c os) (replies_to c os) ≡ first ∷ more
        → (replies_to c os ≡ first ∷ more → replies_to c (without_reply c os) ≡ more)
        → replies_to c (cond b os (Answered d reply ∷ without_reply c os)) ≡ more
    by true is g f = cc
    by false is g f = ap (λ b. cond b (reply ∷ replies_to c (without_reply c os))
        (replies_to c (without_reply c os))) is
        ∙ f g
