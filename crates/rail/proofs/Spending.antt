-- Outputs whose messages are taken out, one after another.
use Rattle.std.proofs.Common.{◌≡◌, inl, inr, ℕ, ◌+◌, ◌<◌, ◌≤◌, ◌==◌, zero, suc, if◌then◌else◌, List, [], ◌∷◌, ◌++◌}
use Rattle.std.proofs.Common.{length, map, slice_index_or, slice_set, refl, ap, ◌∙◌, subst, arith}
use Rattle.node.specs.declared.messages.Output.{Output}
use Rattle.node.specs.declared.messages.Output.TheVariants.{To, Reply as Replied}
use Rattle.node.specs.Replies.{AreRepliesBelow}
use Rattle.faces.specs.Histories.{History}
use Rattle.faces.specs.Outputs.{IsAmong, PutsOut}
use Rattle.rail.specs.NotedReplies.{ReplySenderState}
use Rattle.rail.specs.Turns.{noted_replies_to, HasPutReplies, HasReplied}
use Rattle.rail.specs.Spent.{ArePutOut, spent}

-- these outputs, the first k spent
abbrev pub spent_to : ℕ → List Output → List Output
spent_to zero xs = xs
spent_to (suc k) [] = []
spent_to (suc k) (x ∷ xs) = spent x ∷ spent_to k xs

-- none is lost
pub length_spent : (k : ℕ) (xs : List Output) → length (spent_to k xs) ≡ length xs
length_spent zero xs = refl
length_spent (suc k) [] = refl
length_spent (suc k) (x ∷ xs) = ap suc (length_spent k xs)

-- the next one is as it was
pub spent_at : (k : ℕ) (xs : List Output) (d : Output)
    → k < length xs
    → slice_index_or (spent_to k xs) k d ≡ slice_index_or xs k d
spent_at zero xs d within = refl
spent_at (suc k) [] d within = absurd (omega (arith, within))
spent_at (suc k) (x ∷ xs) d within = spent_at k xs d (omega (arith, within))

-- so it is if some are spent
pub same_at : (k : ℕ) (xs ys : List Output) (now : Output)
    → k < length xs
    → ys ≡ spent_to k xs
    → now ≡ slice_index_or ys k now
    → now ≡ slice_index_or xs k now
same_at k xs ys now within ys_are is = is ∙ ap (λ zs. slice_index_or zs k now) ys_are ∙ spent_at k xs now within

-- the next one is spent too
pub spent_on : (k : ℕ) (xs : List Output) (d o : Output)
    → k < length xs
    → o ≡ spent (slice_index_or xs k d)
    → slice_set (spent_to k xs) k o ≡ spent_to (k + 1) xs
spent_on k [] d o within is = absurd (omega (arith, within))
spent_on zero (x ∷ xs) d o within is = ap (λ y. y ∷ xs) is
spent_on (suc k) (x ∷ xs) d o within is =
    let n : suc (k + 1) ≡ suc k + 1 = omega arith in
    ap (λ l. spent x ∷ l) (spent_on k xs d o (omega (arith, within)) is) ∙ ap (λ m. spent_to m (x ∷ xs)) n

-- so it is once it is taken out
pub same_on : (k : ℕ) (xs ys : List Output) (now o : Output)
    → k < length xs
    → ys ≡ spent_to k xs
    → now ≡ slice_index_or ys k now
    → o ≡ spent now
    → slice_set ys k o ≡ spent_to (k + 1) xs
same_on k xs ys now o within ys_are is o_is =
    ap (λ zs. slice_set zs k o) ys_are
    ∙ spent_on k xs now o within (o_is ∙ ap spent (same_at k xs ys now within ys_are is))

-- all are spent
pub spent_all : (k : ℕ) (xs : List Output) → length xs ≤ k → spent_to k xs ≡ map spent xs
spent_all zero [] most = refl
spent_all zero (x ∷ xs) most = absurd (omega (arith, most))
spent_all (suc k) [] most = refl
spent_all (suc k) (x ∷ xs) most = ap (λ l. spent x ∷ l) (spent_all k xs (omega (arith, most)))

-- the replies that are left were put out
pub put_out_all : (c : History) (xs : List Output)
    → ((o : Output) → IsAmong o xs → PutsOut c o)
    → ArePutOut c (map spent xs)
put_out_all c [] all = tt
put_out_all c (To to peer ∷ xs) all = put_out_all c xs (λ o among. all o (inr among))
put_out_all c (Replied port reply ∷ xs) all =
    (all (Replied port reply) (inl refl), put_out_all c xs (λ o among. all o (inr among)))

-- their ports are as they were
pub spent_below : (n : ℕ) (xs : List Output) → AreRepliesBelow n xs → AreRepliesBelow n (map spent xs)
spent_below n [] h = tt
spent_below n (To to peer ∷ xs) h = spent_below n xs h
spent_below n (Replied port reply ∷ xs) h = (h.0, spent_below n xs h.1)

spent_noted : (c : History) (k : ℕ) (xs : List Output)
    → noted_replies_to c k (map spent xs) ≡ noted_replies_to c k xs
spent_noted c k [] = refl
spent_noted c k (To to peer ∷ xs) = spent_noted c k xs
spent_noted c k (Replied port reply ∷ xs) =
    ap (λ l. if port == k then (record { port = port; reply = reply; told = c }) ∷ l else l) (spent_noted c k xs)

-- what is replied of outputs that are spent is what is replied of them
pub spent_replied : (c : History) (k : ℕ) (ps qs : List ReplySenderState) (xs : List Output)
    → HasReplied c k ps qs (map spent xs)
    → HasReplied c k ps qs xs
spent_replied c k [] qs xs h = h
spent_replied c k (p ∷ ps) [] xs h = absurd h
spent_replied c k (p ∷ ps) (q ∷ qs) xs h =
    (subst (HasPutReplies p q) (spent_noted c k xs) h.0, spent_replied c (k + 1) ps qs xs h.1)

put_out_one : (c : History) (x : Output) (rest : List Output) → ArePutOut c (x ∷ rest) → ArePutOut c (x ∷ [])
put_out_one c (To to peer) rest h = tt
put_out_one c (Replied port reply) rest h = (h.0, tt)

put_out_in : (c : History) (x : Output) (done rest : List Output)
    → ArePutOut c (done ++ x ∷ rest)
    → ArePutOut c (x ∷ [])
put_out_in c x [] rest h = put_out_one c x rest h
put_out_in c x (To to peer ∷ ys) rest h = put_out_in c x ys rest h
put_out_in c x (Replied port reply ∷ ys) rest h = put_out_in c x ys rest h.1

-- the next one of them was put out
pub put_out_rest : (c : History) (x : Output) (all done left rest : List Output)
    → all ≡ done ++ left
    → left ≡ x ∷ rest
    → ArePutOut c all
    → ArePutOut c (x ∷ [])
put_out_rest c x all done left rest is next h =
    put_out_in c x done rest (subst (ArePutOut c) (is ∙ ap (λ l. done ++ l) next) h)
