-- The calls of a seat are those of its connections, one connection after another, and so are its replies.
use Rattle.std.proofs.Common.{◌≡◌, ◌≢◌, ℕ, zero, suc, ◌+◌, ◌-◌, ◌<◌, ◌≤◌, Bool, true, false, cond, List, [], ◌∷◌, ◌++◌}
use Rattle.std.proofs.Common.{length, refl, arith, ap, sym, ◌∙◌, inl, inr, subst, length-append}
use Rattle.std.proofs.Common.{append-nil, append_assoc}
use Rattle.std.specs.Prelude.{nat_lt, slice_get, if◌then◌else◌}
use Rattle.std.proofs.lemmas.Bool.{cases_lt, cases_eq, ltb-true, ltb-false, lt-ltb}
use Rattle.std.proofs.lemmas.Option.{slice_get_past}
use Rattle.table.specs.declared.operations.Call.{Call}
use Rattle.table.specs.declared.operations.Reply.{Reply}
use Rattle.node.proofs.Lists.{get_last}
use Rattle.interleavings.specs.Chains.{with_at}
use Rattle.interleavings.proofs.lists.ChangedFunctions.{at_same, at_other, at_self}

-- ---- two lists, one after the other

-- a place in the first
pub get_before : {X : Type 0} (xs ys : List X) (p : ℕ) → p < length xs → slice_get (xs ++ ys) p ≡ slice_get xs p
get_before [] ys p h = absurd (omega (arith, h))
get_before (x ∷ xs) ys zero h = refl
get_before (x ∷ xs) ys (suc p) h = get_before xs ys p (omega (arith, h))

-- a place in the second
pub get_behind : {X : Type 0} (xs ys : List X) (q : ℕ) → slice_get (xs ++ ys) (length xs + q) ≡ slice_get ys q
get_behind [] ys q = let e : 0 + q ≡ q = omega arith in ap (slice_get ys) e
get_behind (x ∷ xs) ys q =
    let e : length (x ∷ xs) + q ≡ suc (length xs + q) = omega arith in
    ap (slice_get (x ∷ (xs ++ ys))) e ∙ get_behind xs ys q

-- ---- calls of the first connections

-- the calls of the connections before n
unfoldable pub upto : (ℕ → List Call) → ℕ → List Call
upto cs zero = []
upto cs (suc n) = upto cs n ++ cs n

-- how many there are
abbrev pub start : (ℕ → List Call) → ℕ → ℕ
start cs n = length (upto cs n)

-- the same calls of each connection are the same calls
pub upto_same : (cs ds : ℕ → List Call) (n : ℕ) → ((i : ℕ) → i < n → cs i ≡ ds i) → upto cs n ≡ upto ds n
unfolding upto
upto_same cs ds zero same = refl
upto_same cs ds (suc n) same =
    ap (λ xs. xs ++ cs n) (upto_same cs ds n (λ i l. same i (omega (arith, l))))
    ∙ ap (λ xs. upto ds n ++ xs) (same n (omega arith))

-- those of one connection more
pub start_next : (cs : ℕ → List Call) (n : ℕ) → start cs (suc n) ≡ start cs n + length (cs n)
unfolding upto
start_next cs n = length-append (upto cs n) (cs n)

-- a connection's calls come before those of a later one
pub starts_before : (cs : ℕ → List Call) (n m : ℕ) → n < m → start cs n + length (cs n) ≤ start cs m
unfolding upto
starts_before cs n zero l = absurd (omega (arith, l))
starts_before cs n (suc m) l = elim (cases_eq n m) [
  | inl same ↦ let e = start_next cs m in rw same (omega (arith, e))
  | inr other ↦
      let less : n < m = omega (arith, l, other) in
      let e = start_next cs m in
      let s = starts_before cs n m less in
      omega (arith, e, s)
]

-- a call stands after those of the connections before
pub found_there : (cs : ℕ → List Call) (m n q : ℕ)
    → n < m
    → q < length (cs n)
    → slice_get (upto cs m) (start cs n + q) ≡ slice_get (cs n) q
unfolding upto
found_there cs zero n q l h = absurd (omega (arith, l))
found_there cs (suc m) n q l h = elim (cases_eq n m) [
  | inl same ↦ rw same (get_behind (upto cs m) (cs m) q)
  | inr other ↦
      let less : n < m = omega (arith, l, other) in
      let s = starts_before cs n m less in
      get_before (upto cs m) (cs m) (start cs n + q) (omega (arith, s, h)) ∙ found_there cs m n q less h
]

-- ---- whose call stands at a place

-- the connection, and the ordinal among its calls
pub owner : (ℕ → List Call) → ℕ → ℕ → ℕ × ℕ
owner cs zero p = (0, p)
owner cs (suc m) p = if nat_lt p (start cs m) then owner cs m p else (m, p - start cs m)

-- It is one of those connections and one of its calls, and stands there.
pub record IsOwner (cs : ℕ → List Call) (m p : ℕ) (x : ℕ × ℕ) : Type 0 where
  pub below : x.0 < m
  pub inside : x.1 < length (cs x.0)
  pub ordinal : start cs x.0 + x.1 ≡ p

-- so it is, for a place that there is
pub owner_is : (cs : ℕ → List Call) (m p : ℕ) → p < start cs m → IsOwner cs m p (owner cs m p)
unfolding upto owner
owner_is cs zero p h = absurd (omega (arith, h))
owner_is cs (suc m) p h = by_test (nat_lt p (start cs m)) refl (λ l. owner_is cs m p l)
  where
    by_test : (b : Bool)
        → nat_lt p (start cs m) ≡ b
        → (p < start cs m → IsOwner cs m p (owner cs m p))
        → IsOwner cs (suc m) p (cond b (owner cs m p) (m, p - start cs m))
    by_test true e f =
        let o = f (ltb-true p (start cs m) e) in
        record { below = let b = o.below in omega (arith, b); inside = o.inside; ordinal = o.ordinal }
    by_test false e f =
        let n = start_next cs m in
        let past : start cs m ≤ p = ltb-false p (start cs m) e in
        record { below = omega arith; inside = omega (arith, n, past, h); ordinal = omega (arith, past) }

-- the place of a call is the call's
pub owner_found : (cs : ℕ → List Call) (m n q : ℕ)
    → n < m
    → q < length (cs n)
    → owner cs m (start cs n + q) ≡ (n, q)
unfolding upto owner
owner_found cs zero n q l h = absurd (omega (arith, l))
owner_found cs (suc m) n q l h = elim (cases_eq n m) [
  | inl same ↦ rw same (here (nat_lt (start cs m + q) (start cs m)) refl)
  | inr other ↦
      let less : n < m = omega (arith, l, other) in
      let s = starts_before cs n m less in
      let in_front : start cs n + q < start cs m = omega (arith, s, h) in
      rw (lt-ltb (start cs n + q) (start cs m) in_front) (owner_found cs m n q less h)
]
  where
    here : (b : Bool)
        → nat_lt (start cs m + q) (start cs m) ≡ b
        → cond b (owner cs m (start cs m + q)) (m, (start cs m + q) - start cs m) ≡ (m, q)
    here true e = let l = ltb-true (start cs m + q) (start cs m) e in absurd (omega (arith, l))
    here false e = let d : (start cs m + q) - start cs m ≡ q = omega arith in ap (λ r. (m, r)) d

-- ---- a seat and its connections

-- The seat's calls are those of its connections, in turn; those that it hasn't served yet have none. The replies that
-- it has are those of the connections, each at the place of its call. If the one that it serves waits for a reply, so
-- does the seat.
pub record InTurn (calls : List Call) (got : List Reply) (cs : ℕ → List Call) (rs : ℕ → List Reply) (e : ℕ) :
    Type 0 where
  pub all_calls : calls ≡ upto cs (suc e)
  pub later : (i : ℕ) → e < i → (cs i ≡ []) × (rs i ≡ [])
  pub placed : (n q : ℕ) → q < length (cs n) → slice_get (rs n) q ≡ slice_get got (start cs n + q)
  pub open_one : length (rs e) < length (cs e) → length calls ≡ suc (length got)

-- what a connection makes changes nothing of those before it
pub start_at : (cs : ℕ → List Call) (e : ℕ) (x : List Call) (n : ℕ)
    → n ≤ e
    → upto (with_at cs e x) n ≡ upto cs n
start_at cs e x n l =
    upto_same (with_at cs e x) cs n (λ i h. at_other cs e x i (λ same. omega (arith, l, h, same)))

-- the connection that is served has these calls and replies from now on
pub turn_changed : (calls calls' : List Call) (got got' : List Reply) (cs : ℕ → List Call) (rs : ℕ → List Reply) (e : ℕ)
    (x : List Call) (y : List Reply)
    → InTurn calls got cs rs e
    → calls' ≡ upto cs e ++ x
    → start cs e ≤ length got
    → ((p : ℕ) → p < length got → slice_get got' p ≡ slice_get got p)
    → ((q : ℕ) → q < length x → slice_get y q ≡ slice_get got' (start cs e + q))
    → (length y < length x → length calls' ≡ suc (length got'))
    → InTurn calls' got' (with_at cs e x) (with_at rs e y) e
unfolding upto
turn_changed calls calls' got got' cs rs e x y h all room keeps here wait = record {
  all_calls =
      all ∙ ap (λ xs. xs ++ x) (sym (start_at cs e x e (omega arith)))
      ∙ ap (λ xs. upto (with_at cs e x) e ++ xs) (sym (at_same cs e x));
  later = λ i l.
      let o : i ≢ e = λ same. omega (arith, l, same) in
      (at_other cs e x i o ∙ (h.later i l).0, at_other rs e y i o ∙ (h.later i l).1);
  placed = λ n q l. elim (cases_eq n e) [
    | inl same ↦
        subst (λ k. slice_get (with_at rs e y k) q ≡ slice_get got' (start (with_at cs e x) k + q)) (sym same)
        (ap (λ z. slice_get z q) (at_same rs e y)
        ∙ here q (subst (λ z. q < length z) (at_same cs e x) (subst (λ k. q < length (with_at cs e x k)) same l))
        ∙ ap (λ z. slice_get got' (length z + q)) (sym (start_at cs e x e (omega arith))))
    | inr other ↦ elsewhere n q other (subst (λ z. q < length z) (at_other cs e x n other) l)
  ];
  open_one = λ l. wait (subst (λ z. length z < length x) (at_same rs e y)
      (subst (λ z. length (with_at rs e y e) < length z) (at_same cs e x) l));
}
  where
    elsewhere : (n q : ℕ)
        → n ≢ e
        → q < length (cs n)
        → slice_get (with_at rs e y n) q ≡ slice_get got' (start (with_at cs e x) n + q)
    elsewhere n q other l = elim (cases_lt n e) [
      | inl less ↦
          let s = starts_before cs n e less in
          ap (λ z. slice_get z q) (at_other rs e y n other) ∙ h.placed n q l
          ∙ sym (keeps (start cs n + q) (omega (arith, s, l, room)))
          ∙ ap (λ z. slice_get got' (length z + q)) (sym (start_at cs e x n (omega (arith, less))))
      | inr past ↦
          let more : e < n = omega (arith, past, other) in
          absurd (let none = ap length (h.later n more).0 in omega (arith, l, none))
    ]

-- a reply more, and at the same place
pub one_reply : (got rs : List Reply) (r : Reply) (s q : ℕ)
    → length got ≡ s + length rs
    → ((p : ℕ) → p < length rs → slice_get rs p ≡ slice_get got (s + p))
    → q < suc (length rs)
    → slice_get (rs ++ r ∷ []) q ≡ slice_get (got ++ r ∷ []) (s + q)
one_reply got rs r s q e old l = elim (cases_lt q (length rs)) [
  | inl less ↦
      get_before rs (r ∷ []) q less ∙ old q less ∙ sym (get_before got (r ∷ []) (s + q) (omega (arith, e, less)))
  | inr past ↦
      let last : q ≡ length rs = omega (arith, l, past) in
      let there : s + q ≡ length got = omega (arith, e, last) in
      ap (slice_get (rs ++ r ∷ [])) last ∙ get_last rs r
      ∙ sym (ap (slice_get (got ++ r ∷ [])) there ∙ get_last got r)
]

module _ (calls : List Call) (got : List Reply) (cs : ℕ → List Call) (rs : ℕ → List Reply) (e : ℕ)
    (h : InTurn calls got cs rs e) where
  total : length calls ≡ start cs e + length (cs e)
  total = ap length h.all_calls ∙ start_next cs e

  -- a call more, which has no reply yet
  pub turn_asked : (call : Call)
      → length calls ≡ length got
      → length (rs e) ≡ length (cs e)
      → InTurn (calls ++ call ∷ []) got (with_at cs e (cs e ++ call ∷ [])) rs e
  unfolding upto
  turn_asked call free even =
      let t = total in
      let n = length-append (cs e) (call ∷ []) in
      let m = length-append calls (call ∷ []) in
      subst (λ (ss : ℕ → List Reply). InTurn (calls ++ call ∷ []) got (with_at cs e (cs e ++ call ∷ [])) ss e)
      (at_self rs e)
      (turn_changed calls (calls ++ call ∷ []) got got cs rs e (cs e ++ call ∷ []) (rs e) h
      (ap (λ xs. xs ++ call ∷ []) h.all_calls ∙ append_assoc (upto cs e) (cs e) (call ∷ []))
      (omega (arith, t, free)) (λ p l. refl)
      (λ q l. elim (cases_lt q (length (cs e))) [
        | inl less ↦ h.placed e q less
        | inr past ↦
            slice_get_past (rs e) q (omega (arith, past, even))
            ∙ sym (slice_get_past got (start cs e + q) (omega (arith, t, free, past)))
      ])
      (λ l. omega (arith, m, free)))

  -- a call more, and its reply
  pub turn_peeked : (call : Call) (r : Reply)
      → length calls ≡ length got
      → length (rs e) ≡ length (cs e)
      → InTurn (calls ++ call ∷ []) (got ++ r ∷ []) (with_at cs e (cs e ++ call ∷ [])) (with_at rs e (rs e ++ r ∷ [])) e
  unfolding upto
  turn_peeked call r free even =
      let t = total in
      let n = length-append (cs e) (call ∷ []) in
      let k = length-append (rs e) (r ∷ []) in
      turn_changed calls (calls ++ call ∷ []) got (got ++ r ∷ []) cs rs e (cs e ++ call ∷ []) (rs e ++ r ∷ []) h
      (ap (λ xs. xs ++ call ∷ []) h.all_calls ∙ append_assoc (upto cs e) (cs e) (call ∷ []))
      (omega (arith, t, free)) (λ p l. get_before got (r ∷ []) p l)
      (λ q l. one_reply got (rs e) r (start cs e) q (omega (arith, t, free, even))
      (λ p less. h.placed e p (omega (arith, less, even))) (omega (arith, l, n, even)))
      (λ l. absurd (omega (arith, l, n, k, even)))

  -- the reply of the open call
  pub turn_answered : (r : Reply)
      → length (rs e) < length (cs e)
      → length (cs e) ≤ length (rs e) + 1
      → InTurn calls (got ++ r ∷ []) cs (with_at rs e (rs e ++ r ∷ [])) e
  unfolding upto
  turn_answered r less one =
      let t = total in
      let k = length-append (rs e) (r ∷ []) in
      let o = h.open_one less in
      subst (λ (ds : ℕ → List Call). InTurn calls (got ++ r ∷ []) ds (with_at rs e (rs e ++ r ∷ [])) e) (at_self cs e)
      (turn_changed calls calls got (got ++ r ∷ []) cs rs e (cs e) (rs e ++ r ∷ []) h h.all_calls
      (omega (arith, t, o, less)) (λ p l. get_before got (r ∷ []) p l)
      (λ q l. one_reply got (rs e) r (start cs e) q (omega (arith, t, o, less, one))
      (λ p within. h.placed e p (omega (arith, within, less))) (omega (arith, l, one)))
      (λ l. absurd (omega (arith, l, k, one))))

  -- the connection ends
  pub turn_ended : InTurn calls got cs rs (suc e)
  unfolding upto
  turn_ended =
      let l = h.later (suc e) (omega arith) in
      record {
        all_calls = h.all_calls ∙ sym (ap (λ xs. upto cs (suc e) ++ xs) l.0 ∙ append-nil (upto cs (suc e)));
        later = λ i more. h.later i (omega (arith, more));
        placed = h.placed;
        open_one = λ less. absurd (let n = ap length l.0 in omega (arith, less, n));
      }
