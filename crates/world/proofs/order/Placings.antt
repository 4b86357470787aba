-- What stands in the list of updates and reads, and that it is sorted.
use Rattle.std.proofs.Common.{◌≡◌, ℕ, zero, suc, ◌+◌, ◌≤◌, List, [], ◌∷◌, length, Some, refl, sym, ap, ◌∙◌, arith, ◌⊎◌}
use Rattle.std.proofs.Common.{inl, inr}
use Rattle.std.specs.Prelude.{slice_get, ◌==◌}
use Rattle.std.proofs.lemmas.Bool.{cond_both, eqb-true, eq-eqb, cases_order, both_ways}
use Rattle.std.proofs.lemmas.Option.{same_Some}
use Rattle.table.specs.declared.operations.Call.{Call}
use Rattle.versions.specs.Entries.{LogEntry}
use Rattle.world.specs.Calls.{CallId}
use Rattle.node.proofs.Lists.{In, in_joined, in_front, in_behind, in_more}
use Rattle.world.proofs.trace.Traces.{AnsweredRead}
use Rattle.world.proofs.order.Placing.{Placed, IsBefore, Sorted, of_update, of_read, reads_at, placed, below_each}
use Rattle.world.proofs.order.Placing.{sorted_joined}

at_end : (n : ℕ) → n ≡ n + 0
at_end n = omega arith

at_front : (n : ℕ) → 0 + n ≡ n
at_front n = omega arith

module _ (name : LogEntry → CallId) (asked : CallId → Call) where
  -- a read of number n, the first of these having the place q
  abbrev IsReadAt : ℕ → ℕ → List AnsweredRead → Placed → Type 0
  IsReadAt n q rs p =
      (j : ℕ) × (r : AnsweredRead) × (slice_get rs j ≡ Some r) × (r.number ≡ n) × (p ≡ of_read name asked (q + j) r)

  read_source : (n q : ℕ) (rs : List AnsweredRead) (p : Placed) → In p (reads_at name asked n q rs) → IsReadAt n q rs p
  unfolding reads_at
  read_source n q [] p h = absurd cc
  read_source n q (r ∷ rs) p h =
      cond_both (r.number == n) (of_read name asked q r ∷ reads_at name asked n (suc q) rs)
      (reads_at name asked n (suc q) rs) (λ ps. In p ps → IsReadAt n q (r ∷ rs) p)
      (λ t g. elim (in_more _ _ p g) [
        | inl is ↦ (0, r, refl, eqb-true _ _ t, is ∙ ap (λ x. of_read name asked x r) (at_end q))
        | inr later ↦ next (read_source n (suc q) rs p later)
      ])
      (λ t g. next (read_source n (suc q) rs p g)) h
    where
      next : IsReadAt n (suc q) rs p → IsReadAt n q (r ∷ rs) p
      next (j, x, at_j, is, same) = (
        suc j,
        x,
        at_j,
        is,
        same ∙ ap (λ y. of_read name asked y x) (let e : suc q + j ≡ q + suc j = omega arith in e),
      )

  sorted_reads : (n q : ℕ) (rs : List AnsweredRead) → Sorted (reads_at name asked n q rs)
  unfolding reads_at
  sorted_reads n q [] = tt
  sorted_reads n q (r ∷ rs) =
      cond_both (r.number == n) (of_read name asked q r ∷ reads_at name asked n (suc q) rs)
      (reads_at name asked n (suc q) rs) Sorted
      (λ t. (
        below_each (of_read name asked q r) _ (λ x h.
            let s = read_source n (suc q) rs x h in
            let same : x ≡ of_read name asked (suc q + s.0) s.1 = s.4 in
            rw same (inr (eqb-true _ _ t ∙ sym s.3, omega arith))),
        sorted_reads n (suc q) rs,
      ))
      (λ t. sorted_reads n (suc q) rs)

  read_found : (n q : ℕ) (rs : List AnsweredRead) (j : ℕ) (r : AnsweredRead)
      → slice_get rs j ≡ Some r
      → r.number ≡ n
      → In (of_read name asked (q + j) r) (reads_at name asked n q rs)
  unfolding reads_at
  read_found n q [] j r h e = absurd cc
  read_found n q (x ∷ rs) zero r h e =
      let one : x ≡ r = same_Some x r h in
      cond_both (x.number == n) (of_read name asked q x ∷ reads_at name asked n (suc q) rs)
      (reads_at name asked n (suc q) rs) (λ ps. In (of_read name asked (q + 0) r) ps)
      (λ t. (0, ap (λ y. Some y) (ap (λ y. of_read name asked q y) one ∙ ap (λ y. of_read name asked y r) (at_end q))))
      (λ t. absurd (both_ways _ t (eq-eqb _ _ (ap (λ (y : AnsweredRead). y.number) one ∙ e))))
  read_found n q (x ∷ rs) (suc j) r h e =
      let move : q + suc j ≡ suc q + j = omega arith in
      let later = read_found n (suc q) rs j r h e in
      cond_both (x.number == n) (of_read name asked q x ∷ reads_at name asked n (suc q) rs)
      (reads_at name asked n (suc q) rs) (λ ps. In (of_read name asked (q + suc j) r) ps)
      (λ t. rw move (suc later.0, later.1)) (λ t. rw move later)

  -- an update after number n, or a read from number n on
  abbrev pub IsPlaced : List AnsweredRead → ℕ → List LogEntry → Placed → Type 0
  IsPlaced rs n es p =
      ((k : ℕ) × (e : LogEntry) × (slice_get es k ≡ Some e) × (p ≡ of_update name asked (n + k) e))
      ⊎ ((j : ℕ) × (r : AnsweredRead) × (slice_get rs j ≡ Some r) × (n ≤ r.number) × (p ≡ of_read name asked j r))

  from_read : (rs : List AnsweredRead) (n : ℕ) (es : List LogEntry) (p : Placed)
      → IsReadAt n 0 rs p
      → IsPlaced rs n es p
  from_read rs n es p (j, r, h, e, is) =
      inr (j, r, h, omega (arith, e), is ∙ ap (λ x. of_read name asked x r) (at_front j))

  -- what stands in the order is one of these updates or of these reads
  pub source : (rs : List AnsweredRead) (n : ℕ) (es : List LogEntry) (p : Placed)
      → In p (placed name asked rs n es)
      → IsPlaced rs n es p
  unfolding placed
  source rs n [] p h = from_read rs n [] p (read_source n 0 rs p h)
  source rs n (e ∷ es) p h = elim (in_joined (reads_at name asked n 0 rs) _ p h) [
    | inl here ↦ from_read rs n (e ∷ es) p (read_source n 0 rs p here)
    | inr behind ↦ elim (in_more _ _ p behind) [
      | inl is ↦ inl (0, e, refl, is ∙ ap (λ x. of_update name asked x e) (at_end n))
      | inr later ↦ elim (source rs (suc n) es p later) [
        | inl u ↦ inl (
          suc u.0,
          u.1,
          u.2,
          u.3 ∙ ap (λ x. of_update name asked x u.1) (let m : suc n + u.0 ≡ n + suc u.0 = omega arith in m),
        )
        | inr r ↦ inr (r.0, r.1, r.2, omega (arith, r.3), r.4)
      ]
    ]
  ]

  above : (rs : List AnsweredRead) (n : ℕ) (es : List LogEntry) (p : Placed)
      → In p (placed name asked rs n es)
      → n ≤ p.number
  above rs n es p h = elim (source rs n es p h) [
    | inl u ↦ rw u.3 (omega arith)
    | inr r ↦ rw r.4 r.3
  ]

  -- the order is sorted by ranks
  pub sorted : (rs : List AnsweredRead) (n : ℕ) (es : List LogEntry) → Sorted (placed name asked rs n es)
  unfolding placed
  sorted rs n [] = sorted_reads n 0 rs
  sorted rs n (e ∷ es) =
      let behind : Sorted (of_update name asked n e ∷ placed name asked rs (suc n) es) = (
        below_each (of_update name asked n e) _ (λ x h. elim (source rs (suc n) es x h) [
          | inl u ↦ rw u.3 (inl (omega arith))
          | inr r ↦ rw r.4 (by_number r.0 r.1 r.3)
        ]),
        sorted rs (suc n) es,
      ) in
      sorted_joined (reads_at name asked n 0 rs) (of_update name asked n e ∷ placed name asked rs (suc n) es)
      (sorted_reads n 0 rs) behind (λ p q h g.
      let s = read_source n 0 rs p h in
      let low : p.number ≡ n = rw s.4 s.3 in
      let high : suc n ≤ q.number = elim (in_more (of_update name asked n e) (placed name asked rs (suc n) es) q g)
      [ inl is ↦ rw is (omega arith) | inr later ↦ above rs (suc n) es q later ] in
      inl (omega (arith, low, high)))
    where
      by_number : (j : ℕ) (r : AnsweredRead)
          → suc n ≤ r.number
          → IsBefore (of_update name asked n e) (of_read name asked j r)
      by_number j r l = elim (cases_order (suc n) r.number) [
        | inl same ↦ inr (same, omega arith)
        | inr other ↦ elim other [ inl less ↦ inl less | inr greater ↦ absurd (omega arith) ]
      ]

  -- each of these updates stands in the order
  pub update_found : (rs : List AnsweredRead) (n : ℕ) (es : List LogEntry) (k : ℕ) (e : LogEntry)
      → slice_get es k ≡ Some e
      → In (of_update name asked (n + k) e) (placed name asked rs n es)
  unfolding placed
  update_found rs n [] k e h = absurd cc
  update_found rs n (x ∷ es) zero e h =
      let one : x ≡ e = same_Some x e h in
      in_behind (reads_at name asked n 0 rs) _ _
      ((
        0,
        ap (λ y. Some y)
            (ap (λ y. of_update name asked n y) one ∙ ap (λ y. of_update name asked y e) (at_end n)),
      ))
  update_found rs n (x ∷ es) (suc k) e h =
      let later = update_found rs (suc n) es k e h in
      let move : n + suc k ≡ suc n + k = omega arith in
      in_behind (reads_at name asked n 0 rs) _ _ (rw move (suc later.0, later.1))

  -- each of these reads stands in the order, if its number is among those of the updates
  pub read_placed : (rs : List AnsweredRead) (n : ℕ) (es : List LogEntry) (j : ℕ) (r : AnsweredRead)
      → slice_get rs j ≡ Some r
      → n ≤ r.number
      → r.number ≤ n + length es
      → In (of_read name asked j r) (placed name asked rs n es)
  unfolding placed
  read_placed rs n [] j r h low high = rw (at_front j) at (read_found n 0 rs j r h (omega (arith, low, high)))
  read_placed rs n (e ∷ es) j r h low high = elim (cases_order n r.number) [
    | inl same ↦ in_front (reads_at name asked n 0 rs) _ _ (rw (at_front j) at (read_found n 0 rs j r h (sym same)))
    | inr other ↦ elim other [
      | inl less ↦ (let later = read_placed rs (suc n) es j r h (omega arith) (omega (arith, high)) in
          in_behind (reads_at name asked n 0 rs) _ _ (suc later.0, later.1))
      | inr greater ↦ absurd (omega arith)
    ]
  ]
