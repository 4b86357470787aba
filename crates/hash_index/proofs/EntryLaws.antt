-- What lists of entries have at a key, and that no two of their keys are the same.
use Rattle.std.proofs.Common.{◌≡◌, ℕ, zero, suc, ◌+◌, ◌<◌, Bool, true, false, cond, List, [], ◌∷◌, ◌++◌, length, take}
use Rattle.std.proofs.Common.{Option, None, Some, refl, sym, ap, ◌∙◌, ◌⊎◌, ⊎_elim, inl, inr, arith, get_or, set}
use Rattle.std.specs.Option.{IsSome, is_some, option_or}
use Rattle.std.specs.List.{flat_map, filter, remove, IsDistinct, AllByRecursion}
use Rattle.std.specs.Map.{keys_of}
use Rattle.std.specs.BTreeMap.{is_at}
use Rattle.std.specs.Cmp.{eq_by_cmp_equiv, IsEquivalence}
use Rattle.std.proofs.lemmas.Bool.{cases_Bool, cond-true, cond-false}
use Rattle.std.proofs.lemmas.List.{take_more}
use Rattle.std.proofs.lemmas.Map.{NonePasses, none_passes_from_lookup, lookup-none}
use Rattle.std.proofs.lemmas.Map.Entries.{lookup-filter-keys}
use Rattle.std.proofs.lemmas.Map.Made.{length-from_same_keys, is_some-lookup}
use Rattle.std.specs.Set.{is_member}
use Rattle.table.specs.Keys.{tree_key_cmp}
use Rattle.table.proofs.TreeKeyLaws.{tree_key_total, tree_key_tie, tree_key_itself}
use Rattle.hash_index.specs.Entries.{value_at, key_in, value_in, with_value, AreApart}

-- whether two keys are one
abbrev pub same : List ℕ → List ℕ → Bool
same k q = is_at (tree_key_cmp k) q

pub same_laws : IsEquivalence same
same_laws = eq_by_cmp_equiv tree_key_total

pub same_turned : (k q : List ℕ) → same k q ≡ same q k
same_turned k q = same_laws.symm k q

module _ {V : Type 0} where
  none_or : (b : Bool) (v : V) (o : Option V) → b ≡ false → cond b (Some v) o ≡ o
  none_or true v o e = cc
  none_or false v o e = refl

  -- nothing is found at the first entry, and nothing after it
  pub none_head : (e : List ℕ × V) (es : List (List ℕ × V)) (q : List ℕ)
      → value_at (e ∷ es) q ≡ None → same q e.0 ≡ false
  none_head e es q h = by (same q e.0) h
    where
      by : (b : Bool) → cond b (Some e.1) (value_at es q) ≡ None → b ≡ false
      by true h = cc
      by false h = refl

  pub none_tail : (e : List ℕ × V) (es : List (List ℕ × V)) (q : List ℕ)
      → value_at (e ∷ es) q ≡ None → value_at es q ≡ None
  none_tail e es q h = sym (none_or (same q e.0) e.1 (value_at es q) (none_head e es q h)) ∙ h

  pub none_cons : (e : List ℕ × V) (es : List (List ℕ × V)) (q : List ℕ)
      → same q e.0 ≡ false → value_at es q ≡ None → value_at (e ∷ es) q ≡ None
  none_cons e es q other none = none_or (same q e.0) e.1 (value_at es q) other ∙ none

  -- what two lists have
  pub value_at-append : (xs ys : List (List ℕ × V)) (q : List ℕ)
      → value_at (xs ++ ys) q ≡ option_or (value_at xs q) (value_at ys q)
  value_at-append [] ys q = refl
  value_at-append (x ∷ xs) ys q = ap (cond (same q x.0) (Some x.1)) (value_at-append xs ys q) ∙ by (same q x.0)
    where
      by : (b : Bool) → cond b (Some x.1) (option_or (value_at xs q) (value_at ys q))
          ≡ option_or (cond b (Some x.1) (value_at xs q)) (value_at ys q)
      by true = refl
      by false = refl

  pub value_at-left_none : (xs ys : List (List ℕ × V)) (q : List ℕ)
      → value_at xs q ≡ None → value_at (xs ++ ys) q ≡ value_at ys q
  value_at-left_none xs ys q none = value_at-append xs ys q ∙ ap (λ o. option_or o (value_at ys q)) none

  or_none : (o : Option V) → option_or o None ≡ o
  or_none None = refl
  or_none (Some x) = refl

  pub value_at-right_none : (xs ys : List (List ℕ × V)) (q : List ℕ)
      → value_at ys q ≡ None → value_at (xs ++ ys) q ≡ value_at xs q
  value_at-right_none xs ys q none =
      value_at-append xs ys q ∙ ap (option_or (value_at xs q)) none ∙ or_none (value_at xs q)

  pub some_or : (o p : Option V) → IsSome o → option_or o p ≡ o
  some_or None p some = cc
  some_or (Some x) p some = refl

  pub none_or_some : (o : Option V) → (o ≡ None) ⊎ IsSome o
  none_or_some None = inl refl
  none_or_some (Some x) = inr refl

  pub not_both : (o : Option V) → o ≡ None → IsSome o → ⊥
  not_both None none some = cc
  not_both (Some x) none some = cc

  -- ---- lists of lists

  -- nothing is in all lists if nothing is in each
  pub joined-none : (bs : List (List (List ℕ × V))) (q : List ℕ)
      → ((j : ℕ) → value_at (get_or bs j []) q ≡ None) → value_at (flat_map (λ b. b) bs) q ≡ None
  joined-none [] q none = refl
  joined-none (b ∷ bs) q none =
      value_at-left_none b _ q (none 0) ∙ joined-none bs q (λ j. none (suc j))

  -- all lists have what the only one has that has anything
  pub joined-lone : (bs : List (List (List ℕ × V))) (q : List ℕ) (i : ℕ)
      → ((j : ℕ) → (i ≡ j → ⊥) → value_at (get_or bs j []) q ≡ None)
      → value_at (flat_map (λ b. b) bs) q ≡ value_at (get_or bs i []) q
  joined-lone [] q i none = refl
  joined-lone (b ∷ bs) q zero none =
      value_at-right_none b _ q (joined-none bs q (λ j. none (suc j) (λ e. omega (arith, e))))
  joined-lone (b ∷ bs) q (suc i) none =
      value_at-left_none b _ q (none 0 (λ e. omega (arith, e)))
      ∙ joined-lone bs q i (λ j other. none (suc j) (λ e. other (omega (arith, e))))

  -- ---- no two keys are the same

  -- of two lists that have no key in common
  pub AreApart-append : (xs ys : List (List ℕ × V)) → AreApart xs → AreApart ys
      → ((q : List ℕ) → IsSome (value_at xs q) → value_at ys q ≡ None) → AreApart (xs ++ ys)
  AreApart-append [] ys a b none = b
  AreApart-append (x ∷ xs) ys a b none =
      let here : same x.0 x.0 ≡ true = tree_key_itself x.0 in (
        value_at-left_none xs ys x.0 a.0 ∙ none x.0 (ap is_some (cond-true (same x.0 x.0) (Some x.1) (value_at xs
            x.0) here)),
        AreApart-append xs ys a.1 b (λ q some. none q (more (same q x.0) (value_at xs q) some)),
      )
    where
      more : (t : Bool) (o : Option V) → IsSome o → IsSome (cond t (Some x.1) o)
      more true o some = refl
      more false o some = some

  pub AreApart-left : (xs ys : List (List ℕ × V)) → AreApart (xs ++ ys) → AreApart xs
  AreApart-left [] ys a = tt
  AreApart-left (x ∷ xs) ys a = (first, AreApart-left xs ys a.1)
    where
      by : (o p : Option V) → option_or o p ≡ None → o ≡ None
      by None p e = refl
      by (Some v) p e = cc

      first : value_at xs x.0 ≡ None
      first = by (value_at xs x.0) (value_at ys x.0) (sym (value_at-append xs ys x.0) ∙ a.0)

  pub AreApart-right : (xs ys : List (List ℕ × V)) → AreApart (xs ++ ys) → AreApart ys
  AreApart-right [] ys a = a
  AreApart-right (x ∷ xs) ys a = AreApart-right xs ys a.1

  -- what the second list has the first hasn't
  pub AreApart-other : (xs ys : List (List ℕ × V)) → AreApart (xs ++ ys) → (q : List ℕ)
      → IsSome (value_at ys q) → value_at xs q ≡ None
  AreApart-other [] ys a q some = refl
  AreApart-other (x ∷ xs) ys a q some =
      none_cons x xs q
      (⊎_elim
      (λ t. absurd (not_both (value_at ys q)
      (ap (value_at ys) (tree_key_tie q x.0 t) ∙ right (value_at xs x.0) (value_at ys x.0) (sym (value_at-append xs
      ys x.0) ∙ a.0))
      some))
      (λ f. f) (cases_Bool (same q x.0)))
      (AreApart-other xs ys a.1 q some)
    where
      right : (o p : Option V) → option_or o p ≡ None → p ≡ None
      right None p e = e
      right (Some v) p e = cc

  -- of lists of lists, each of which has the keys of one place
  pub AreApart-joined : (place : List ℕ → ℕ) (n : ℕ) (bs : List (List (List ℕ × V)))
      → ((j : ℕ) → AreApart (get_or bs j []))
      → ((j : ℕ) (q : List ℕ) → (place q ≡ n + j → ⊥) → value_at (get_or bs j []) q ≡ None)
      → AreApart (flat_map (λ b. b) bs)
  AreApart-joined place n [] each placed = tt
  AreApart-joined place n (b ∷ bs) each placed =
      AreApart-append b _ (each 0)
      (AreApart-joined place (suc n) bs (λ j. each (suc j))
      (λ j q other. placed (suc j) q (λ e. other (omega (arith, e)))))
      (λ q some. joined-none bs q (λ j. placed (suc j) q
      (λ e. not_both (value_at b q) (placed 0 q (λ f. omega (arith, e, f))) some)))

  -- in std's words, and back
  distinct_head : (x : List ℕ) (es : List (List ℕ × V)) → NonePasses (same x) es
      → AllByRecursion (λ y. same x y ≡ false) (keys_of es)
  distinct_head x [] n = tt
  distinct_head x (e ∷ es) n = (n.0, distinct_head x es n.1)

  head_distinct : (x : List ℕ) (es : List (List ℕ × V)) → AllByRecursion (λ y. same x y ≡ false) (keys_of es)
      → NonePasses (same x) es
  head_distinct x [] n = tt
  head_distinct x (e ∷ es) n = (n.0, head_distinct x es n.1)

  pub IsDistinct-from_apart : (es : List (List ℕ × V)) → AreApart es → IsDistinct same (keys_of es)
  unfolding IsDistinct
  IsDistinct-from_apart [] a = tt
  IsDistinct-from_apart (e ∷ es) a =
      (distinct_head e.0 es (none_passes_from_lookup (same e.0) es a.0), IsDistinct-from_apart es a.1)

  pub apart_from_IsDistinct : (es : List (List ℕ × V)) → IsDistinct same (keys_of es) → AreApart es
  unfolding IsDistinct
  apart_from_IsDistinct [] d = tt
  apart_from_IsDistinct (e ∷ es) d =
      (lookup-none (same e.0) es (head_distinct e.0 es d.0), apart_from_IsDistinct es d.1)

  -- ---- one more entry

  turned : (k q : List ℕ) (v : V) → cond (same q k) (Some v) None ≡ cond (same k q) (Some v) None
  turned k q v = ap (λ b. cond b (Some v) None) (same_turned q k)

  pub value_at-push : (es : List (List ℕ × V)) (k : List ℕ) (v : V) → value_at es k ≡ None
      → (q : List ℕ) → value_at (es ++ (k, v) ∷ []) q ≡ cond (same k q) (Some v) (value_at es q)
  value_at-push es k v none q =
      value_at-append es ((k, v) ∷ []) q ∙ ap (option_or (value_at es q)) (turned k q v)
      ∙ ⊎_elim
      (λ t. ap (λ b. option_or (value_at es q) (cond b (Some v) None)) t
      ∙ ap (λ o. option_or o (Some v)) (ap (value_at es) (sym (tree_key_tie k q t)) ∙ none)
      ∙ sym (ap (λ b. cond b (Some v) (value_at es q)) t))
      (λ f. ap (λ b. option_or (value_at es q) (cond b (Some v) None)) f
      ∙ or_none (value_at es q) ∙ sym (ap (λ b. cond b (Some v) (value_at es q)) f))
      (cases_Bool (same k q))

  pub AreApart-push : (es : List (List ℕ × V)) (k : List ℕ) (v : V) → value_at es k ≡ None → AreApart es
      → AreApart (es ++ (k, v) ∷ [])
  AreApart-push es k v none a =
      AreApart-append es ((k, v) ∷ []) a (refl, tt)
      (λ q some. none_or (same q k) v None
      (⊎_elim (λ t. absurd (not_both (value_at es q) (ap (value_at es) (tree_key_tie q k t) ∙ none) some)) (λ f. f)
      (cases_Bool (same q k))))

  -- ---- another value, or none, at a position

  pub value_in-at : (es : List (List ℕ × V)) (i : ℕ) (k : List ℕ) → AreApart es → key_in es i ≡ Some k
      → value_at es k ≡ value_in es i
  value_in-at [] i k a at = cc
  value_in-at (e ∷ es) zero k a at =
      let one : e.0 ≡ k = cc in
      cond-true (same k e.0) (Some e.1) (value_at es k) (ap (same k) one ∙ tree_key_itself k)
  value_in-at (e ∷ es) (suc i) k a at =
      let later = value_in-at es i k a.1 at in
      cond-false (same k e.0) (Some e.1) (value_at es k)
      (⊎_elim (λ t. absurd (has_none es i k at (sym later ∙ ap (value_at es) (tree_key_tie k e.0 t) ∙ a.0))) (λ f. f)
      (cases_Bool (same k e.0))) ∙ later
    where
      has_none : (fs : List (List ℕ × V)) (j : ℕ) (k : List ℕ) → key_in fs j ≡ Some k → value_in fs j ≡ None → ⊥
      has_none [] j k at none = cc
      has_none (f ∷ fs) zero k at none = cc
      has_none (f ∷ fs) (suc j) k at none = has_none fs j k at none

  pub value_in-some : (es : List (List ℕ × V)) (i : ℕ) (k : List ℕ) → key_in es i ≡ Some k → IsSome (value_in es i)
  value_in-some [] i k at = cc
  value_in-some (e ∷ es) zero k at = refl
  value_in-some (e ∷ es) (suc i) k at = value_in-some es i k at

  other_head : (e : List ℕ × V) (es : List (List ℕ × V)) (i : ℕ) (k : List ℕ)
      → AreApart (e ∷ es) → key_in es i ≡ Some k → same k e.0 ≡ false
  other_head e es i k a at =
      ⊎_elim
      (λ t. absurd (not_both (value_at es k) (ap (value_at es) (tree_key_tie k e.0 t) ∙ a.0)
      (ap is_some (value_in-at es i k a.1 at) ∙ value_in-some es i k at)))
      (λ f. f) (cases_Bool (same k e.0))

  -- the two tests of a key that is not the first entry's
  swapped : (b c : Bool) (w x : Option V) (o : Option V) → (b ≡ true → c ≡ true → ⊥)
      → cond b x (cond c w o) ≡ cond c w (cond b x o)
  swapped true true w x o clash = absurd (clash refl refl)
  swapped true false w x o clash = refl
  swapped false c w x o clash = refl

  twice : (b c : Bool) (w x o : Option V) → b ≡ c → cond b w o ≡ cond c w (cond b x o)
  twice true true w x o e = refl
  twice false false w x o e = refl
  twice true false w x o e = cc
  twice false true w x o e = cc

  both_keys : (e : List ℕ × V) (k q : List ℕ) → same k e.0 ≡ false → same q e.0 ≡ true → same k q ≡ true → ⊥
  both_keys e k q other t u =
      let first : k ≡ q = tree_key_tie k q u in
      let there : same k e.0 ≡ true = ap (λ x. same x e.0) first ∙ t in
      cc

  pub value_at-with_value : (es : List (List ℕ × V)) (i : ℕ) (k : List ℕ) (v : V) → AreApart es
      → key_in es i ≡ Some k
      → (q : List ℕ) → value_at (with_value es i v) q ≡ cond (same k q) (Some v) (value_at es q)
  value_at-with_value [] i k v a at q = cc
  value_at-with_value (e ∷ es) zero k v a at q =
      let one : e.0 ≡ k = cc in
      twice (same q e.0) (same k q) (Some v) (Some e.1) (value_at es q) (ap (same q) one ∙ same_turned q k)
  value_at-with_value (e ∷ es) (suc i) k v a at q =
      ap (cond (same q e.0) (Some e.1)) (value_at-with_value es i k v a.1 at q)
      ∙ swapped (same q e.0) (same k q) (Some v) (Some e.1) (value_at es q)
      (both_keys e k q (other_head e es i k a at))

  -- what a list without the first entry has, if that is a key's
  without_head : (e : List ℕ × V) (es : List (List ℕ × V)) (k q : List ℕ) → e.0 ≡ k → value_at es e.0 ≡ None
      → value_at es q ≡ cond (same k q) None (value_at (e ∷ es) q)
  without_head e es k q one none = by (same q e.0) (same k q) (ap (same q) one ∙ same_turned q k) refl
    where
      by : (b c : Bool) → b ≡ c → same q e.0 ≡ b
          → value_at es q ≡ cond c None (cond b (Some e.1) (value_at es q))
      by true true s t = ap (value_at es) (tree_key_tie q e.0 t) ∙ none
      by false false s t = refl
      by true false s t = cc
      by false true s t = cc

  pub value_at-remove : (es : List (List ℕ × V)) (i : ℕ) (k : List ℕ) → AreApart es → key_in es i ≡ Some k
      → (q : List ℕ) → value_at (remove es i) q ≡ cond (same k q) None (value_at es q)
  value_at-remove [] i k a at q = cc
  value_at-remove (e ∷ es) zero k a at q =
      let one : e.0 ≡ k = cc in
      without_head e es k q one a.0
  value_at-remove (e ∷ es) (suc i) k a at q =
      ap (cond (same q e.0) (Some e.1)) (value_at-remove es i k a.1 at q)
      ∙ swapped (same q e.0) (same k q) None (Some e.1) (value_at es q)
      (both_keys e k q (other_head e es i k a at))

  none_with_value : (es : List (List ℕ × V)) (i : ℕ) (v : V) (q : List ℕ) → value_at es q ≡ None
      → value_at (with_value es i v) q ≡ None
  none_with_value [] i v q none = refl
  none_with_value (e ∷ es) zero v q none =
      none_cons (e.0, v) es q (none_head e es q none) (none_tail e es q none)
  none_with_value (e ∷ es) (suc i) v q none =
      none_cons e (with_value es i v) q (none_head e es q none) (none_with_value es i v q (none_tail e es q none))

  pub AreApart-with_value : (es : List (List ℕ × V)) (i : ℕ) (v : V) → AreApart es → AreApart (with_value es i v)
  AreApart-with_value [] i v a = tt
  AreApart-with_value (e ∷ es) zero v a = a
  AreApart-with_value (e ∷ es) (suc i) v a = (none_with_value es i v e.0 a.0, AreApart-with_value es i v a.1)

  none_remove : (es : List (List ℕ × V)) (i : ℕ) (q : List ℕ) → value_at es q ≡ None
      → value_at (remove es i) q ≡ None
  none_remove [] zero q none = refl
  none_remove [] (suc i) q none = refl
  none_remove (e ∷ es) zero q none = none_tail e es q none
  none_remove (e ∷ es) (suc i) q none =
      none_cons e (remove es i) q (none_head e es q none) (none_remove es i q (none_tail e es q none))

  pub AreApart-remove : (es : List (List ℕ × V)) (i : ℕ) → AreApart es → AreApart (remove es i)
  AreApart-remove [] zero a = tt
  AreApart-remove [] (suc i) a = tt
  AreApart-remove (e ∷ es) zero a = a.1
  AreApart-remove (e ∷ es) (suc i) a = (none_remove es i e.0 a.0, AreApart-remove es i a.1)

  pub key_in-with_value : (es : List (List ℕ × V)) (i j : ℕ) (v : V) → key_in (with_value es i v) j ≡ key_in es j
  key_in-with_value [] i j v = refl
  key_in-with_value (e ∷ es) zero zero v = refl
  key_in-with_value (e ∷ es) zero (suc j) v = refl
  key_in-with_value (e ∷ es) (suc i) zero v = refl
  key_in-with_value (e ∷ es) (suc i) (suc j) v = key_in-with_value es i j v

  -- ---- what a read of a position says

  pub key_found : (es : List (List ℕ × V)) (i : ℕ) (e : List ℕ × V) (k : List ℕ) → i < length es
      → e ≡ get_or es i e → same k e.0 ≡ true → key_in es i ≡ Some k
  key_found [] i e k within is t = absurd (omega arith)
  key_found (x ∷ xs) zero e k within is t = ap (λ y. Some y.0) (sym is) ∙ ap Some (sym (tree_key_tie k e.0 t))
  key_found (x ∷ xs) (suc i) e k within is t = key_found xs i e k (omega arith) is t

  pub value_found : (es : List (List ℕ × V)) (i : ℕ) (e : List ℕ × V) → i < length es
      → e ≡ get_or es i e → value_in es i ≡ Some e.1
  value_found [] i e within is = absurd (omega arith)
  value_found (x ∷ xs) zero e within is = ap (λ y. Some y.1) (sym is)
  value_found (x ∷ xs) (suc i) e within is = value_found xs i e (omega arith) is

  pub with_value_is : (es : List (List ℕ × V)) (i : ℕ) (e : List ℕ × V) (v : V)
      → e ≡ get_or es i e → set es i (e.0, v) ≡ with_value es i v
  with_value_is [] i e v is = refl
  with_value_is (x ∷ xs) zero e v is = ap (λ y. (y.0, v) ∷ xs) is
  with_value_is (x ∷ xs) (suc i) e v is = ap (λ ys. x ∷ ys) (with_value_is xs i e v is)

  -- a key that is at none of some positions, and not at the next
  pub none_more : (es : List (List ℕ × V)) (i : ℕ) (e : List ℕ × V) (k : List ℕ) → i < length es
      → e ≡ get_or es i e → same k e.0 ≡ false → value_at (take i es) k ≡ None
      → value_at (take (i + 1) es) k ≡ None
  none_more es i e k within is other none =
      ap (λ xs. value_at xs k) (take_more es i e within)
      ∙ value_at-left_none (take i es) (get_or es i e ∷ []) k none
      ∙ none_cons (get_or es i e) [] k (ap (λ y. same k y.0) (sym is) ∙ other) refl

  pub key_within : (es : List (List ℕ × V)) (i : ℕ) (k : List ℕ) → key_in es i ≡ Some k → i < length es
  key_within [] i k at = cc
  key_within (e ∷ es) zero k at = omega arith
  key_within (e ∷ es) (suc i) k at =
      let rest : i < length es = key_within es i k at in
      omega arith

  -- ---- the entries of some keys

  pub value_at-filter : (p : List ℕ → Bool) (es : List (List ℕ × V)) (q : List ℕ)
      → value_at (filter (λ e. p e.0) es) q ≡ cond (p q) (value_at es q) None
  value_at-filter p es q =
      lookup-filter-keys (same q) p (p q) (λ k t. ap p (sym (tree_key_tie q k t))) es

  none_filter : (p : List ℕ → Bool) (es : List (List ℕ × V)) (q : List ℕ) → value_at es q ≡ None
      → value_at (filter (λ e. p e.0) es) q ≡ None
  none_filter p es q none = value_at-filter p es q ∙ by (p q) (value_at es q) none
    where
      by : (b : Bool) (o : Option V) → o ≡ None → cond b o None ≡ None
      by true o e = e
      by false o e = refl

  pub AreApart-filter : (p : List ℕ → Bool) (es : List (List ℕ × V)) → AreApart es
      → AreApart (filter (λ e. p e.0) es)
  AreApart-filter p [] a = tt
  AreApart-filter p (e ∷ es) a =
      by (p e.0) (none_filter p es e.0 a.0) (AreApart-filter p es a.1)
    where
      by : (b : Bool) → value_at (filter (λ e. p e.0) es) e.0 ≡ None → AreApart (filter (λ e. p e.0) es)
          → AreApart (cond b (e ∷ filter (λ e. p e.0) es) (filter (λ e. p e.0) es))
      by true none rest = (none, rest)
      by false none rest = rest

  -- ---- how many entries there are

  members : (es : List (List ℕ × V)) (q : List ℕ) → is_member same (keys_of es) q ≡ is_some (value_at es q)
  members es q = sym (is_some-lookup (same q) es)

  length-keys : (gs : List (List ℕ × V)) → length (keys_of gs) ≡ length gs
  length-keys [] = refl
  length-keys (g ∷ gs) = ap suc (length-keys gs)

  -- as many as in another list that has the same keys
  pub length-keys_same : (es fs : List (List ℕ × V)) → AreApart es → AreApart fs
      → ((q : List ℕ) → is_some (value_at fs q) ≡ is_some (value_at es q)) → length fs ≡ length es
  length-keys_same es fs a b h =
      sym (length-keys fs)
      ∙ length-from_same_keys same_laws (keys_of fs) (keys_of es) (IsDistinct-from_apart fs b) (IsDistinct-from_apart
      es a)
      (λ q. members fs q ∙ h q ∙ sym (members es q))
      ∙ length-keys es

  pub length-same : (es fs : List (List ℕ × V)) → AreApart es → AreApart fs
      → ((q : List ℕ) → value_at fs q ≡ value_at es q) → length fs ≡ length es
  length-same es fs a b h = length-keys_same es fs a b (λ q. ap is_some (h q))

  -- one more than in a list that hasn't the one key
  pub length-put : (es fs : List (List ℕ × V)) (k : List ℕ) (v : V) → AreApart es → AreApart fs
      → value_at es k ≡ None → ((q : List ℕ) → value_at fs q ≡ cond (same k q) (Some v) (value_at es q))
      → length fs ≡ length es + 1
  length-put es fs k v a b none h =
      length-same ((k, v) ∷ es) fs (none, a) b
      (λ q. h q ∙ ap (λ t. cond t (Some v) (value_at es q)) (same_turned k q)) ∙ (omega arith)
