-- Heads, tails, successors and predecessors: what it means to be one, that there is only one, and whom a server takes
-- for its own.
use Rattle.std.proofs.Common.{◌≡◌, ◌≢◌, ℕ, suc, ◌-◌, ◌<◌, true, false, Option, Some, None, refl, ◌∙◌, arith, inl, inr, ap}
use Rattle.std.proofs.lemmas.Bool.{both_ways, cases_order, eqb-true, eq-eqb}
use Rattle.node.specs.Views.{View, has, predecessor, successor, head, tail, is_that, is_same}
use Rattle.node.specs.Servers.{ServerState, head_of, tail_of, is_head, is_tail, predecessor_of, successor_of}
use Rattle.node.proofs.ViewLaws.{next_is, next_within_many, no_next, IsPredecessor, predecessor_is, no_predecessor}

-- who passes the test of being the one is the one
pub that_is : (o : Option ℕ) (i : ℕ) → is_that o i ≡ true → o ≡ Some i
that_is None i h = absurd cc
that_is (Some j) i h = ap (λ x. Some x) (eqb-true j i h)

-- the test of being the same says so
pub same_is : (a b : Option ℕ) → is_same a b ≡ true → a ≡ b
same_is None None h = refl
same_is None (Some j) h = absurd cc
same_is (Some i) None h = absurd cc
same_is (Some i) (Some j) h = ap Some (eqb-true i j h)

-- the one passes the test of being the one
pub is_itself : (o : Option ℕ) (i : ℕ) → o ≡ Some i → is_that o i ≡ true
is_itself o i e = rw e (eq-eqb i i refl)

-- ---- heads

-- the least server of a chain of n outside a view
pub record IsHead (v : View) (n j : ℕ) : Type 0 where
  pub within : j < n
  pub out : has v j ≡ false
  pub below : (x : ℕ) → x < j → has v x ≡ true

-- the head that is found is the least server outside the view
pub head_is : (v : View) (n j : ℕ) → head v n ≡ Some j → IsHead v n j
head_is v n j h =
    let r = next_is v 0 n j h in
    record {
      within = omega (arith, next_within_many v 0 n j h);
      out = r.out;
      below = λ x l. r.between x (omega arith) l;
    }

-- if no head is found, the view names all servers
pub no_head : (v : View) (n : ℕ) → head v n ≡ None → (x : ℕ) → x < n → has v x ≡ true
no_head v n h x l = no_next v 0 n h x (omega arith) (omega arith)

-- two of them are one
pub heads_agree : (v : View) (n i j : ℕ) → IsHead v n i → IsHead v n j → i ≡ j
heads_agree v n i j h g =
    elim (cases_order i j) [
      | inl same ↦ same
      | inr other ↦ elim other [
        | inl less ↦ absurd (both_ways _ h.out (g.below i less))
        | inr greater ↦ absurd (both_ways _ g.out (h.below j greater))
      ]
    ]

found_head : (v : View) (n j : ℕ) (o : Option ℕ) → head v n ≡ o → IsHead v n j → o ≡ Some j
found_head v n j None e h = absurd (both_ways _ h.out (no_head v n e j h.within))
found_head v n j (Some i) e h = ap (λ x. Some x) (heads_agree v n i j (head_is v n i e) h)

-- the least server outside the view is found as the head
pub head_from : (v : View) (n j : ℕ) → IsHead v n j → head v n ≡ Some j
head_from v n j h = found_head v n j (head v n) refl h

-- ---- tails and predecessors

-- if no tail is found, the view names all servers
pub no_tail : (v : View) (n : ℕ) → tail v n ≡ None → (x : ℕ) → x < n → has v x ≡ true
no_tail v n h x l = no_predecessor v n h x l

-- there is only one nearest server below, so one predecessor and one tail
pub predecessor_agree : (v : View) (n i j : ℕ) → IsPredecessor v n i → IsPredecessor v n j → i ≡ j
predecessor_agree v n i j h g =
    elim (cases_order i j) [
      | inl same ↦ same
      | inr other ↦ elim other [
        | inl less ↦ absurd (both_ways _ g.out (h.between j less g.below))
        | inr greater ↦ absurd (both_ways _ h.out (g.between i greater h.below))
      ]
    ]

found_predecessor : (v : View) (n j : ℕ) (o : Option ℕ) → predecessor v n ≡ o → IsPredecessor v n j → o ≡ Some j
found_predecessor v n j None e h = absurd (both_ways _ h.out (no_predecessor v n e j h.below))
found_predecessor v n j (Some i) e h = ap (λ x. Some x) (predecessor_agree v n i j (predecessor_is v n i e) h)

-- the nearest server below that the view leaves is found as the predecessor
pub predecessor_from : (v : View) (n j : ℕ) → IsPredecessor v n j → predecessor v n ≡ Some j
predecessor_from v n j h = found_predecessor v n j (predecessor v n) refl h

-- ---- successors

-- the least server above i of a chain of n outside a view
pub record IsFollowing (v : View) (n i j : ℕ) : Type 0 where
  pub above : i < j
  pub within : j < n
  pub out : has v j ≡ false
  pub between : (x : ℕ) → i < x → x < j → has v x ≡ true

-- the successor that is found is the least server above that the view leaves
pub following_is : (v : View) (n i j : ℕ) → successor v n i ≡ Some j → IsFollowing v n i j
following_is v n i j h =
    let r = next_is v (suc i) (n - suc i) j h in
    record {
      above = omega (arith, r.above);
      within = omega (arith, r.above, next_within_many v (suc i) (n - suc i) j h);
      out = r.out;
      between = λ x a l. r.between x (omega arith) l;
    }

-- if no successor is found, the view names all servers above
pub no_following : (v : View) (n i : ℕ) → successor v n i ≡ None → (x : ℕ) → i < x → x < n → has v x ≡ true
no_following v n i h x a l = no_next v (suc i) (n - suc i) h x (omega arith) (omega arith)

-- there is only one successor
pub following_agree : (v : View) (n i j k : ℕ) → IsFollowing v n i j → IsFollowing v n i k → j ≡ k
following_agree v n i j k h g =
    elim (cases_order j k) [
      | inl same ↦ same
      | inr other ↦ elim other [
        | inl less ↦ absurd (both_ways _ h.out (g.between j h.above less))
        | inr greater ↦ absurd (both_ways _ g.out (h.between k g.above greater))
      ]
    ]

found_following : (v : View) (n i j : ℕ) (o : Option ℕ) → successor v n i ≡ o → IsFollowing v n i j → o ≡ Some j
found_following v n i j None e h = absurd (both_ways _ h.out (no_following v n i e j h.above h.within))
found_following v n i j (Some k) e h = ap (λ x. Some x) (following_agree v n i k j (following_is v n i k e) h)

-- the least server above that the view leaves is found as the successor
pub following_from : (v : View) (n i j : ℕ) → IsFollowing v n i j → successor v n i ≡ Some j
following_from v n i j h = found_following v n i j (successor v n i) refl h

-- ---- of a server

-- whom a server takes for the head is the least one outside its view
pub head_of_is : (s : ServerState) (j : ℕ) → head_of s ≡ Some j → IsHead s.view s.count j
head_of_is s j h = head_is s.view s.count j h

-- whom a server takes for the tail is the greatest one outside its view
pub tail_of_is : (s : ServerState) (j : ℕ) → tail_of s ≡ Some j → IsPredecessor s.view s.count j
tail_of_is s j h = predecessor_is s.view s.count j h

-- who takes itself for the head is the least one outside its own view
pub at_head : (s : ServerState) → is_head s ≡ true → IsHead s.view s.count s.id
at_head s h = head_of_is s s.id (that_is _ s.id h)

-- who takes itself for the tail is the greatest one outside its own view
pub at_tail : (s : ServerState) → is_tail s ≡ true → IsPredecessor s.view s.count s.id
at_tail s h = tail_of_is s s.id (that_is _ s.id h)

-- a server's predecessor is the nearest one below that its own view leaves
pub predecessor_found : (s : ServerState) (p : ℕ) → predecessor_of s ≡ Some p → IsPredecessor s.view s.id p
predecessor_found s p h = predecessor_is s.view s.id p h

-- a server's successor is the nearest one above that its own view leaves
pub successor_found : (s : ServerState) (j : ℕ) → successor_of s ≡ Some j → IsFollowing s.view s.count s.id j
successor_found s j h = following_is s.view s.count s.id j h

-- ---- whom a server takes for its neighbours

-- a predecessor has a smaller id
pub predecessor_below : (s : ServerState) (j : ℕ) → predecessor_of s ≡ Some j → j < s.id
predecessor_below s j e = (predecessor_is s.view s.id j e).below

-- a successor has a greater id, and is of the chain
pub next_within : (s : ServerState) (j : ℕ) → s.id < s.count → successor_of s ≡ Some j → (s.id < j) × (j < s.count)
next_within s j placed e =
    let n = next_is s.view (suc s.id) (s.count - suc s.id) j e in
    let w = next_within_many s.view (suc s.id) (s.count - suc s.id) j e in
    (omega (arith, n.above), omega (arith, w))

-- whom a server takes for the head is of the chain
pub head_within : (s : ServerState) (j : ℕ) → head_of s ≡ Some j → j < s.count
head_within s j e = omega (arith, next_within_many s.view 0 s.count j e)

-- whom a server takes for the tail is of the chain
pub tail_within : (s : ServerState) (j : ℕ) → tail_of s ≡ Some j → j < s.count
tail_within s j e = (predecessor_is s.view s.count j e).below

-- who isn't the head takes another for it
not_that : (o : Option ℕ) (i j : ℕ) → is_that o i ≡ false → o ≡ Some j → j ≢ i
not_that o i j h e same = both_ways _ h (is_itself o i (e ∙ ap Some same))

-- who isn't the head takes another server for it
pub head_other : (s : ServerState) (j : ℕ) → is_head s ≡ false → head_of s ≡ Some j → j ≢ s.id
head_other s j h e = not_that (head_of s) s.id j h e

-- who isn't the tail takes another server for it
pub tail_other : (s : ServerState) (j : ℕ) → is_tail s ≡ false → tail_of s ≡ Some j → j ≢ s.id
tail_other s j h e = not_that (tail_of s) s.id j h e

-- each of them is another server of the chain
pub to_predecessor : (s : ServerState) (j : ℕ) → s.id < s.count → predecessor_of s ≡ Some j → (j < s.count) × (j ≢ s.id)
to_predecessor s j placed e = let low = predecessor_below s j e in (omega arith, λ same. omega (arith, same))

-- a message to the successor goes to another server of the chain
pub to_next : (s : ServerState) (j : ℕ) → s.id < s.count → successor_of s ≡ Some j → (j < s.count) × (j ≢ s.id)
to_next s j placed e = let w = next_within s j placed e in (w.1, λ same. omega (arith, w.0, same))

-- a message to the head, of who isn't it, goes to another server of the chain
pub to_head : (s : ServerState) (j : ℕ) → is_head s ≡ false → head_of s ≡ Some j → (j < s.count) × (j ≢ s.id)
to_head s j h e = (head_within s j e, head_other s j h e)

-- a message to the tail, of who isn't it, goes to another server of the chain
pub to_tail : (s : ServerState) (j : ℕ) → is_tail s ≡ false → tail_of s ≡ Some j → (j < s.count) × (j ≢ s.id)
to_tail s j h e = (tail_within s j e, tail_other s j h e)
