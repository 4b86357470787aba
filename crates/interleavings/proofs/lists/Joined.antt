-- What waits in two lists of inputs or of outputs, one after the other.
use Rattle.std.proofs.Common.{◌≡◌, ℕ, Bool, true, false, cond, List, [], ◌∷◌, ◌++◌, refl, ap}
use Rattle.std.specs.Prelude.{◌==◌}
use Rattle.node.specs.declared.messages.Input.{Input}
use Rattle.node.specs.declared.messages.Input.TheVariants.{Call as Called, From, Gone}
use Rattle.node.specs.declared.messages.Output.{Output}
use Rattle.node.specs.declared.messages.Output.TheVariants.{To, Reply as Replied}
use Rattle.world.proofs.streams.Streaming.{sent_to}
use Rattle.interleavings.specs.Chains.{messages_from, calls_from, messages_to, replies_to}

one_more : {X : Type 0} (b : Bool) (x : X) (xs ys zs : List X)
    → zs ≡ xs ++ ys
    → cond b (x ∷ zs) zs ≡ cond b (x ∷ xs) xs ++ ys
one_more true x xs ys zs e = ap (λ us. x ∷ us) e
one_more false x xs ys zs e = e

-- messages to a server
pub messages_to-append : (j : ℕ) (os ps : List Output) → messages_to j (os ++ ps) ≡ messages_to j os ++ messages_to j ps
messages_to-append j [] ps = refl
messages_to-append j (To to m ∷ os) ps = one_more (to == j) m _ _ _ (messages_to-append j os ps)
messages_to-append j (Replied c reply ∷ os) ps = messages_to-append j os ps

-- replies to a seat
pub replies_to-append : (c : ℕ) (os ps : List Output) → replies_to c (os ++ ps) ≡ replies_to c os ++ replies_to c ps
replies_to-append c [] ps = refl
replies_to-append c (To to m ∷ os) ps = replies_to-append c os ps
replies_to-append c (Replied d reply ∷ os) ps = one_more (d == c) reply _ _ _ (replies_to-append c os ps)

-- messages from a server
pub messages_from-append : (i : ℕ) (xs ys : List Input)
    → messages_from i (xs ++ ys) ≡ messages_from i xs ++ messages_from i ys
messages_from-append i [] ys = refl
messages_from-append i (Called c call ∷ xs) ys = messages_from-append i xs ys
messages_from-append i (From j m ∷ xs) ys = one_more (j == i) m _ _ _ (messages_from-append i xs ys)
messages_from-append i (Gone j ∷ xs) ys = messages_from-append i xs ys

-- calls of a seat
pub calls_from-append : (c : ℕ) (xs ys : List Input) → calls_from c (xs ++ ys) ≡ calls_from c xs ++ calls_from c ys
calls_from-append c [] ys = refl
calls_from-append c (Called d call ∷ xs) ys = one_more (d == c) call _ _ _ (calls_from-append c xs ys)
calls_from-append c (From j m ∷ xs) ys = calls_from-append c xs ys
calls_from-append c (Gone j ∷ xs) ys = calls_from-append c xs ys

in_both : {X : Type 0} (b : Bool) (x : X) (xs ys : List X) → xs ≡ ys → cond b (x ∷ xs) xs ≡ cond b (x ∷ ys) ys
in_both true x xs ys e = ap (λ us. x ∷ us) e
in_both false x xs ys e = e

-- `world` has the same words
pub sent_same : (y : ℕ) (os : List Output) → sent_to y os ≡ messages_to y os
sent_same y [] = refl
sent_same y (To to m ∷ os) = in_both (to == y) m _ _ (sent_same y os)
sent_same y (Replied c reply ∷ os) = sent_same y os
