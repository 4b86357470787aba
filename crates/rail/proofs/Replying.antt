-- What is put of a list of replies.
use Rattle.std.proofs.Common.{◌≡◌, ◌≢◌, inl, inr, ℕ, ◌+◌, ◌<◌, ◌≤◌, ◌==◌, zero, suc, Bool, true, false, if◌then◌else◌}
use Rattle.std.proofs.Common.{List, [], ◌∷◌, ◌++◌, length, take, slice_index_or, slice_set, refl, ap, sym, ◌∙◌, subst}
use Rattle.std.proofs.Common.{append_assoc, append-nil, arith}
use Rattle.node.specs.declared.messages.Peer.{Peer}
use Rattle.node.specs.declared.messages.Output.{Output}
use Rattle.node.specs.declared.messages.Output.TheVariants.{To, Reply as Replied}
use Rattle.table.specs.declared.operations.Reply.{Reply}
use Rattle.faces.specs.Histories.{Instance, History}
use Rattle.rail.specs.NotedReplies.{NotedReply, ReplySenderState}
use Rattle.faces.specs.Outputs.{IsAmong}
use Rattle.node.specs.Replies.{AreRepliesBelow}
use Rattle.rail.specs.Turns.{noted_replies_to, HasPutReplies, AreClosed, AreReplySenders, HasReplied}
use Rattle.rail.proofs.Carrying.{same, other}
use Rattle.rail.proofs.Putting.{left_more, left_append}

pub address_at : (o : Instance) (k p n : ℕ) (ps : List ReplySenderState) (d : ReplySenderState)
    → p < length ps
    → n ≡ k + p
    → AreReplySenders o k ps
    → (slice_index_or ps p d).address ≡ record { instance = o; port = n }
address_at o k p n [] d within is h = absurd (omega (arith, within))
address_at o k zero n (x ∷ xs) d within is h =
    h.0 ∙ ap (λ m. record { instance = o; port = m }) (let e : k ≡ n = omega (arith, is) in e)
address_at o k (suc p) n (x ∷ xs) d within is h =
    address_at o (k + 1) p n xs d (omega (arith, within)) (omega (arith, is)) h.1

pub are_set : (o : Instance) (k p : ℕ) (ps : List ReplySenderState) (d q : ReplySenderState)
    → p < length ps
    → q.address ≡ (slice_index_or ps p d).address
    → AreReplySenders o k ps
    → AreReplySenders o k (slice_set ps p q)
are_set o k p [] d q within is h = absurd (omega (arith, within))
are_set o k zero (x ∷ xs) d q within is h = (is ∙ h.0, h.1)
are_set o k (suc p) (x ∷ xs) d q within is h = (h.0, are_set o (k + 1) p xs d q (omega (arith, within)) is h.1)

no_replies_put : (p : ReplySenderState) → HasPutReplies p p []
no_replies_put p = record { address = refl; more = []; put = sym (append-nil p.put); left = refl; gone = λ g. g }

replies_put_on : (p q r : ReplySenderState) (ls ms : List NotedReply) → HasPutReplies p q ls → HasPutReplies q r ms
    → HasPutReplies p r (ls ++ ms)
replies_put_on p q r ls ms a b = record {
  address = b.address ∙ a.address;
  more = a.more ++ b.more;
  put = b.put ∙ (ap (λ w. w ++ b.more) a.put ∙ append_assoc p.put a.more b.more);
  left = left_append (λ noted_reply. r.gone ≡ true) ls ms a.more b.more
      (left_more (λ noted_reply. q.gone ≡ true) (λ noted_reply. r.gone ≡ true) (λ noted_reply g. b.gone g) ls a.more
      a.left) b.left;
  gone = λ g. b.gone (a.gone g);
}

one_noted_reply : (b : Bool) (l : NotedReply) (xs ys : List NotedReply)
    → (if b then l ∷ (xs ++ ys) else xs ++ ys) ≡ (if b then l ∷ xs else xs) ++ ys
one_noted_reply true l xs ys = refl
one_noted_reply false l xs ys = refl

noted_replies_to-append : (c : History) (k : ℕ) (xs ys : List Output)
    → noted_replies_to c k (xs ++ ys) ≡ noted_replies_to c k xs ++ noted_replies_to c k ys
noted_replies_to-append c k [] ys = refl
noted_replies_to-append c k (To to peer ∷ xs) ys = noted_replies_to-append c k xs ys
noted_replies_to-append c k (Replied port reply ∷ xs) ys =
    ap (λ l. if port == k then (record { port = port; reply = reply; told = c }) ∷ l else l)
    (noted_replies_to-append c k xs ys)
    ∙ one_noted_reply (port == k) (record { port = port; reply = reply; told = c }) (noted_replies_to c k xs)
    (noted_replies_to c k ys)

pub replied_none : (c : History) (k : ℕ) (ps : List ReplySenderState) → HasReplied c k ps ps []
replied_none c k [] = refl
replied_none c k (p ∷ ps) = (no_replies_put p, replied_none c (k + 1) ps)

pub replied_on : (c : History) (k : ℕ) (ps qs rs : List ReplySenderState) (xs ys : List Output)
    → HasReplied c k ps qs xs
    → HasReplied c k qs rs ys
    → HasReplied c k ps rs (xs ++ ys)
replied_on c k [] [] rs xs ys a b = b
replied_on c k [] (q ∷ qs) rs xs ys a b = absurd (cc (a))
replied_on c k (p ∷ ps) [] rs xs ys a b = absurd a
replied_on c k (p ∷ ps) (q ∷ qs) [] xs ys a b = absurd b
replied_on c k (p ∷ ps) (q ∷ qs) (r ∷ rs) xs ys a b = (
  subst (HasPutReplies p r) (sym (noted_replies_to-append c k xs ys)) (replies_put_on p q r _ _ a.0 b.0),
  replied_on c (k + 1) ps qs rs xs ys a.1 b.1,
)

not_here : (c : History) (k port : ℕ) (reply : Reply) → port ≢ k → noted_replies_to c k (Replied port reply ∷ []) ≡ []
not_here c k port reply n =
    ap (λ (b : Bool). if b then (record { port = port; reply = reply; told = c }) ∷ [] else []) (other port k n)

-- a reply to none of these ports
pub replied_other : (c : History) (k port : ℕ) (reply : Reply) (ps : List ReplySenderState)
    → ((j : ℕ) → k ≤ j → j < k + length ps → port ≢ j)
    → HasReplied c k ps ps (Replied port reply ∷ [])
replied_other c k port reply [] n = refl
replied_other c k port reply (p ∷ ps) n = (
  subst (HasPutReplies p p) (sym (not_here c k port reply (n k (omega arith) (omega arith)))) (no_replies_put p),
  replied_other c (k + 1) port reply ps (λ j low high. n j (omega (arith, low)) (omega (arith, high))),
)

-- a reply to one of them
pub replied_at : (c : History) (k p port : ℕ) (reply : Reply) (ps : List ReplySenderState) (d q : ReplySenderState)
    → p < length ps
    → port ≡ k + p
    → HasPutReplies (slice_index_or ps p d) q ((record { port = port; reply = reply; told = c }) ∷ [])
    → HasReplied c k ps (slice_set ps p q) (Replied port reply ∷ [])
replied_at c k p port reply [] d q within is h = absurd (omega (arith, within))
replied_at c k zero port reply (x ∷ xs) d q within is h =
    let here : port ≡ k = omega (arith, is) in (
      subst (HasPutReplies x q)
          (sym (ap (λ (b : Bool). if b then (record { port = port; reply = reply; told = c }) ∷ [] else [])
          (ap (λ j. port == j) (sym here) ∙ same port))) h,
      replied_other c (k + 1) port reply xs (λ j low high e. omega (arith, here, low, e)),
    )
replied_at c k (suc p) port reply (x ∷ xs) d q within is h = (
  subst (HasPutReplies x x) (sym (not_here c k port reply (λ e. omega (arith, is, e)))) (no_replies_put x),
  replied_at c (k + 1) p port reply xs d q (omega (arith, within)) (omega (arith, is)) h,
)

-- a message is no reply
pub replied_message : (c : History) (k to : ℕ) (peer : Peer) (ps : List ReplySenderState)
    → HasReplied c k ps ps (To to peer ∷ [])
replied_message c k to peer [] = refl
replied_message c k to peer (p ∷ ps) = (no_replies_put p, replied_message c (k + 1) to peer ps)

-- one of them is closed
pub closed_at : (c : History) (k p : ℕ) (ps : List ReplySenderState) (d q : ReplySenderState)
    → p < length ps
    → HasPutReplies (slice_index_or ps p d) q []
    → HasReplied c k ps (slice_set ps p q) []
closed_at c k p [] d q within h = absurd (omega (arith, within))
closed_at c k zero (x ∷ xs) d q within h = (h, replied_none c (k + 1) xs)
closed_at c k (suc p) (x ∷ xs) d q within h = (no_replies_put x, closed_at c (k + 1) p xs d q (omega (arith, within)) h)

closed_suc : (k : ℕ) (ps : List ReplySenderState) (q : ReplySenderState)
    → k < length ps
    → q.held ≡ false
    → AreClosed (take k ps)
    → AreClosed (take (suc k) (slice_set ps k q))
closed_suc k [] q within shut before = absurd (omega (arith, within))
closed_suc zero (p ∷ ps) q within shut before = (shut, tt)
closed_suc (suc k) (p ∷ ps) q within shut before = (before.0, closed_suc k ps q (omega (arith, within)) shut before.1)

-- one more of the first ones is closed
pub closed_next : (k : ℕ) (ps : List ReplySenderState) (q : ReplySenderState)
    → k < length ps
    → q.held ≡ false
    → AreClosed (take k ps)
    → AreClosed (take (k + 1) (slice_set ps k q))
closed_next k ps q within shut before =
    let more : suc k ≡ k + 1 = omega arith in
    subst (λ (n : ℕ). AreClosed (take n (slice_set ps k q))) more (closed_suc k ps q within shut before)

-- what is replied leaves the reply senders where they are
pub are_replied : (o : Instance) (c : History) (k : ℕ) (ps qs : List ReplySenderState) (xs : List Output)
    → HasReplied c k ps qs xs
    → AreReplySenders o k ps
    → AreReplySenders o k qs
are_replied o c k [] [] xs h a = tt
are_replied o c k [] (q ∷ qs) xs h a = absurd (cc (h))
are_replied o c k (p ∷ ps) [] xs h a = absurd h
are_replied o c k (p ∷ ps) (q ∷ qs) xs h a = (h.0.address ∙ a.0, are_replied o c (k + 1) ps qs xs h.1 a.1)

pub length_replied : (c : History) (k : ℕ) (ps qs : List ReplySenderState) (xs : List Output)
    → HasReplied c k ps qs xs
    → length qs ≡ length ps
length_replied c k [] [] xs h = refl
length_replied c k [] (q ∷ qs) xs h = absurd (cc (h))
length_replied c k (p ∷ ps) [] xs h = absurd h
length_replied c k (p ∷ ps) (q ∷ qs) xs h = ap suc (length_replied c (k + 1) ps qs xs h.1)

below_one : (n : ℕ) (x : Output) (rest : List Output) → AreRepliesBelow n (x ∷ rest) → AreRepliesBelow n (x ∷ [])
below_one n (To to peer) rest h = tt
below_one n (Replied port reply) rest h = (h.0, tt)

below_in : (n : ℕ) (x : Output) (done rest : List Output)
    → AreRepliesBelow n (done ++ x ∷ rest)
    → AreRepliesBelow n (x ∷ [])
below_in n x [] rest h = below_one n x rest h
below_in n x (To to peer ∷ ys) rest h = below_in n x ys rest h
below_in n x (Replied port reply ∷ ys) rest h = below_in n x ys rest h.1

pub below_rest : (n : ℕ) (x : Output) (all done left rest : List Output)
    → all ≡ done ++ left
    → left ≡ x ∷ rest
    → AreRepliesBelow n all
    → AreRepliesBelow n (x ∷ [])
below_rest n x all done left rest is next h =
    below_in n x done rest (subst (AreRepliesBelow n) (is ∙ ap (λ l. done ++ l) next) h)

pub among_end : (x : Output) (xs ys : List Output) → IsAmong x (xs ++ x ∷ ys)
among_end x [] ys = inl refl
among_end x (z ∷ zs) ys = inr (among_end x zs ys)

pub among_rest : (x : Output) (all done left rest : List Output) → all ≡ done ++ left → left ≡ x ∷ rest → IsAmong x all
among_rest x all done left rest is next =
    subst (IsAmong x) (sym (is ∙ ap (λ l. done ++ l) next)) (among_end x done rest)

-- one output more
pub one_on : (x : Output) (all done left rest : List Output)
    → all ≡ done ++ left
    → left ≡ x ∷ rest
    → all ≡ (done ++ x ∷ []) ++ rest
one_on x all done left rest is next = is ∙ (ap (λ l. done ++ l) next ∙ sym (append_assoc done (x ∷ []) rest))
