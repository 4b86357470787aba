-- What buckets have at a key, as one of them changes, and as one is split.
use Rattle.std.proofs.Common.{◌≡◌, ℕ, zero, suc, ◌+◌, ◌-◌, ◌*◌, ◌^◌, ◌<◌, ◌≤◌, max, Bool, true, false, not, cond}
use Rattle.std.proofs.Common.{List, [], ◌∷◌, ◌++◌}
use Rattle.std.proofs.Common.{length, set, get_or, take, Option, None, Some, refl, sym, ap, ◌∙◌, ◌⊎◌, ⊎_elim, inl}
use Rattle.std.proofs.Common.{arith, subst}
use Rattle.std.specs.Option.{IsSome, is_some}
use Rattle.std.specs.Prelude.{Result, Ok, Err, OnOk, OnErr, nat_eq}
use Rattle.std.specs.List.{filter, remove}
use Rattle.std.proofs.lemmas.Bool.{cases_Bool, cases_eq, cases_lt, cond-true, cond-false, eq-eqb, ne_eqb, eqb-true}
use Rattle.std.proofs.lemmas.List.{length-set, length_push, get_or-set_same, get_or-set_other, get_or_append_left}
use Rattle.std.proofs.lemmas.List.{get_or_past, get_or_read, set-set, set-get_or, take_at}
use native.Mathlib.Nat.{pow-succ'}
use Rattle.table.proofs.TreeKeyLaws.{tree_key_tie}
use Rattle.hash_index.specs.Places.{place_of, goes, spread}
use Rattle.hash_index.specs.Entries.{value_at, key_in, value_in, with_value, AreApart, going, staying}
use Rattle.hash_index.specs.Tables.{joined, bucket_at, HasNow, SameValues, AreBuckets}
use Rattle.hash_index.proofs.PlaceLaws.{bucket_of-below, bucket_of-doubled, bucket_of-grown}
use Rattle.hash_index.proofs.EntryLaws.{same, joined-lone, AreApart-joined, AreApart-filter, AreApart-with_value}
use Rattle.hash_index.proofs.EntryLaws.{AreApart-remove, AreApart-push, value_at-filter, value_at-with_value}
use Rattle.hash_index.proofs.EntryLaws.{value_at-remove, value_at-push, value_in-at, value_in-some, not_both}
use Rattle.hash_index.proofs.EntryLaws.{key_within, key_in-with_value}

some_key : (o : Option (List ℕ)) → IsSome o → (k : List ℕ) × (o ≡ Some k)
some_key None some = cc
some_key (Some k) some = (k, refl)

module _ {V : Type 0} where
  -- a key is looked for in its bucket alone
  pub value_at-joined : (half : ℕ) (bs : List (List (List ℕ × V))) → AreBuckets half bs → (q : List ℕ)
      → value_at (joined bs) q ≡ value_at (bucket_at bs (place_of half (length bs) q)) q
  value_at-joined half bs r q = joined-lone bs q (place_of half (length bs) q) (λ j other. r.placed j q other)

  pub joined_apart : (half : ℕ) (bs : List (List (List ℕ × V))) → AreBuckets half bs → AreApart (joined bs)
  joined_apart half bs r =
      AreApart-joined (place_of half (length bs)) 0 bs r.apart
      (λ j q other. r.placed j q (λ e. other (omega (arith, e))))

  -- where a key's entry is, there is its place
  pub place_is : (half : ℕ) (bs : List (List (List ℕ × V))) → AreBuckets half bs → (i slot : ℕ) (k : List ℕ)
      → key_in (bucket_at bs i) slot ≡ Some k → place_of half (length bs) k ≡ i
  place_is half bs r i slot k at =
      ⊎_elim (λ e. e)
      (λ other. absurd (not_both (value_at (bucket_at bs i) k) (r.placed i k other)
      (ap is_some (value_in-at (bucket_at bs i) slot k (r.apart i) at) ∙ value_in-some (bucket_at bs i) slot k at)))
      (cases_eq (place_of half (length bs) k) i)

  -- a bucket that has an entry is there
  pub bucket_within : (bs : List (List (List ℕ × V))) (i slot : ℕ) (k : List ℕ)
      → key_in (bucket_at bs i) slot ≡ Some k → i < length bs
  bucket_within [] i slot k at = cc
  bucket_within (b ∷ bs) zero slot k at = omega arith
  bucket_within (b ∷ bs) (suc i) slot k at =
      let rest : i < length bs = bucket_within bs i slot k at in
      omega arith

  -- one bucket changes at one key, whose place it is
  module _ (half : ℕ) (bs : List (List (List ℕ × V))) (r : AreBuckets half bs) (i : ℕ) (within : i < length bs)
      (k : List ℕ) (here : place_of half (length bs) k ≡ i) (w : Option V) (b : List (List ℕ × V)) (a : AreApart b)
      (h : HasNow k w (bucket_at bs i) b) where
    same_count : length (set bs i b) ≡ length bs
    same_count = length-set bs i b

    at_i : bucket_at (set bs i b) i ≡ b
    at_i = get_or-set_same bs i b [] within

    not_k : (q : List ℕ) → (place_of half (length bs) q ≡ i → ⊥) → same k q ≡ false
    not_k q other =
        ⊎_elim (λ t. absurd (other (ap (place_of half (length bs)) (sym (tree_key_tie k q t)) ∙ here))) (λ f. f)
        (cases_Bool (same k q))

    now_at : (j : ℕ) (q : List ℕ) → (j ≡ place_of half (length bs) q) ⊎ (same k q ≡ false)
        → value_at (bucket_at (set bs i b) j) q ≡ cond (same k q) w (value_at (bucket_at bs j) q)
    now_at j q which =
        ⊎_elim
        (λ e. ap (λ n. value_at (bucket_at (set bs i b) n) q) e ∙ ap (λ c. value_at c q) at_i ∙ h q
        ∙ ap (λ n. cond (same k q) w (value_at (bucket_at bs n) q)) (sym e))
        (λ other. ap (λ c. value_at c q) (get_or-set_other bs i j b [] other)
        ∙ sym (cond-false (same k q) w (value_at (bucket_at bs j) q)
        (⊎_elim (λ e. not_k q (λ f. other (e ∙ f))) (λ f. f) which)))
        (cases_eq j i)

    pub changed : AreBuckets half (set bs i b)
    changed = record {
      power = r.power;
      positive = r.positive;
      enough = subst (λ n. half ≤ max 1 n) (sym same_count) r.enough;
      few = subst (λ n. n ≤ 2 * half) (sym same_count) r.few;
      placed = λ j q other.
          let far : place_of half (length bs) q ≡ j → ⊥ =
          λ e. other (ap (λ n. place_of half n q) same_count ∙ e) in
          ⊎_elim
          (λ e. ap (λ n. value_at (bucket_at (set bs i b) n) q) e ∙ ap (λ c. value_at c q) at_i ∙ h q
          ∙ cond-false (same k q) w (value_at (bucket_at bs i) q) (not_k q (λ f. far (f ∙ sym e)))
          ∙ r.placed i q (λ f. far (f ∙ sym e)))
          (λ away. ap (λ c. value_at c q) (get_or-set_other bs i j b [] away) ∙ r.placed j q far)
          (cases_eq j i);
      apart = λ j.
          ⊎_elim
          (λ e. subst AreApart (sym (ap (bucket_at (set bs i b)) e ∙ at_i)) a)
          (λ away. subst AreApart (sym (get_or-set_other bs i j b [] away)) (r.apart j))
          (cases_eq j i);
    }

    pub changed-values : HasNow k w (joined bs) (joined (set bs i b))
    changed-values q =
        value_at-joined half (set bs i b) changed q
        ∙ ap (λ n. value_at (bucket_at (set bs i b) (place_of half n q)) q) same_count
        ∙ now_at (place_of half (length bs) q) q (inl refl)
        ∙ ap (cond (same k q) w) (sym (value_at-joined half bs r q))

  -- ---- a bucket that is taken out, changed and put back

  pub put_back : (bs mid after : List (List (List ℕ × V))) (i : ℕ) (b0 b : List (List ℕ × V)) → mid ≡ set bs i b0
      → after ≡ set mid i b → after ≡ set bs i b
  put_back bs mid after i b0 b m a = a ∙ ap (λ xs. set xs i b) m ∙ set-set bs i b0 b

  module _ (half : ℕ) (self bs : List (List (List ℕ × V))) (e : bs ≡ self) (r : AreBuckets half bs) (i slot : ℕ)
      (some : IsSome (key_in (bucket_at self i) slot)) where
    there : (k : List ℕ) × (key_in (bucket_at self i) slot ≡ Some k)
    there = some_key (key_in (bucket_at self i) slot) some

    at_bs : (k : List ℕ) → key_in (bucket_at self i) slot ≡ Some k → key_in (bucket_at bs i) slot ≡ Some k
    at_bs k at = ap (λ xs. key_in (bucket_at xs i) slot) e ∙ at

    pub row_there : i < length bs
    row_there = bucket_within bs i slot there.0 (at_bs there.0 there.1)

    module _ (slots : List (List ℕ × V)) (read : slots ≡ get_or bs i slots) where
      slots_are : slots ≡ bucket_at bs i
      slots_are = get_or_read bs i slots row_there read []

      at_slots : (k : List ℕ) → key_in (bucket_at self i) slot ≡ Some k → key_in slots slot ≡ Some k
      at_slots k at = ap (λ es. key_in es slot) slots_are ∙ at_bs k at

      pub slot_there : slot < length slots
      slot_there = key_within slots slot there.0 (at_slots there.0 there.1)

      apart_slots : AreApart slots
      apart_slots = subst AreApart (sym slots_are) (r.apart i)

      -- what stands there is what its key has
      pub held : (v : V) → value_in slots slot ≡ Some v → (k : List ℕ) → key_in (bucket_at self i) slot ≡ Some k
          → value_at (joined self) k ≡ Some v
      held v is k at =
          ap (λ xs. value_at (joined xs) k) (sym e) ∙ value_at-joined half bs r k
          ∙ ap (λ x. value_at (bucket_at bs x) k) (place_is half bs r i slot k (at_bs k at))
          ∙ ap (λ es. value_at es k) (sym slots_are)
          ∙ value_in-at slots slot k apart_slots (at_slots k at) ∙ is

      module _ (mid after : List (List (List ℕ × V))) (b0 b : List (List ℕ × V)) (m : mid ≡ set bs i b0)
          (a : after ≡ set mid i b) where
        after_is : after ≡ set bs i b
        after_is = put_back bs mid after i b0 b m a

        module _ (is : b ≡ remove slots slot) where
          removed_apart : AreApart b
          removed_apart = subst AreApart (sym is) (AreApart-remove slots slot apart_slots)

          removed_values : (k : List ℕ) → key_in (bucket_at self i) slot ≡ Some k → HasNow k None (bucket_at bs i) b
          removed_values k at q =
              ap (λ es. value_at es q) is ∙ value_at-remove slots slot k apart_slots (at_slots k at) q
              ∙ ap (λ es. cond (same k q) None (value_at es q)) slots_are

          pub removed-buckets : AreBuckets half after
          removed-buckets =
              subst (AreBuckets half) (sym after_is)
              (changed half bs r i row_there there.0 (place_is half bs r i slot there.0 (at_bs there.0 there.1)) None
              b
              removed_apart (removed_values there.0 there.1))

          pub removed-values : (k : List ℕ) → key_in (bucket_at self i) slot ≡ Some k
              → HasNow k None (joined self) (joined after)
          removed-values k at q =
              ap (λ xs. value_at (joined xs) q) after_is
              ∙ changed-values half bs r i row_there k (place_is half bs r i slot k (at_bs k at)) None b removed_apart
              (removed_values k at) q
              ∙ ap (λ xs. cond (same k q) None (value_at (joined xs) q)) e

        module _ (v : V) (is : b ≡ with_value slots slot v) where
          swapped_apart : AreApart b
          swapped_apart = subst AreApart (sym is) (AreApart-with_value slots slot v apart_slots)

          swapped_values : (k : List ℕ) → key_in (bucket_at self i) slot ≡ Some k → HasNow k (Some v) (bucket_at bs
              i) b
          swapped_values k at q =
              ap (λ es. value_at es q) is ∙ value_at-with_value slots slot k v apart_slots (at_slots k at) q
              ∙ ap (λ es. cond (same k q) (Some v) (value_at es q)) slots_are

          pub swapped-buckets : AreBuckets half after
          swapped-buckets =
              subst (AreBuckets half) (sym after_is)
              (changed half bs r i row_there there.0 (place_is half bs r i slot there.0 (at_bs there.0 there.1))
              (Some v) b
              swapped_apart (swapped_values there.0 there.1))

          pub swapped-values : (k : List ℕ) → key_in (bucket_at self i) slot ≡ Some k
              → HasNow k (Some v) (joined self) (joined after)
          swapped-values k at q =
              ap (λ xs. value_at (joined xs) q) after_is
              ∙ changed-values half bs r i row_there k (place_is half bs r i slot k (at_bs k at)) (Some v) b
              swapped_apart
              (swapped_values k at) q
              ∙ ap (λ xs. cond (same k q) (Some v) (value_at (joined xs) q)) e

          pub swapped-keys : (n j : ℕ) → key_in (bucket_at after n) j ≡ key_in (bucket_at self n) j
          swapped-keys n j =
              ap (λ xs. key_in (bucket_at xs n) j) after_is
              ∙ ⊎_elim
              (λ here. ap (λ x. key_in (bucket_at (set bs i b) x) j) here
              ∙ ap (λ es. key_in es j) (get_or-set_same bs i b [] row_there ∙ is)
              ∙ key_in-with_value slots slot j v ∙ ap (λ es. key_in es j) slots_are
              ∙ ap (λ x. key_in (bucket_at bs x) j) (sym here))
              (λ other. ap (λ es. key_in es j) (get_or-set_other bs i n b [] other))
              (cases_eq n i)
              ∙ ap (λ xs. key_in (bucket_at xs n) j) e

  -- a key's place is there, if any bucket is
  pub place_there : (half : ℕ) (bs : List (List (List ℕ × V))) → AreBuckets half bs → (n i : ℕ) (k : List ℕ)
      → n ≡ length bs → i ≡ place_of half n k → (length bs ≡ 0 → ⊥) → i < length bs
  place_there half bs r n i k count is some =
      let pos : 0 < half = r.positive in
      let most : half ≤ max 1 (length bs) = r.enough in
      let enough : half ≤ length bs = omega (arith, some) in
      let below : place_of half (length bs) k < length bs = bucket_of-below half (length bs) (spread k) pos enough in
      subst (λ x. x < length bs) (sym (is ∙ ap (λ x. place_of half x k) count)) below

  -- ---- a key that is looked for

  module _ (half : ℕ) (self bs : List (List (List ℕ × V))) (e : bs ≡ self) (r : AreBuckets half bs) (n i : ℕ)
      (k : List ℕ) (count : n ≡ length bs) (is : i ≡ place_of half n k) (some : n ≡ 0 → ⊥)
      (slots : List (List ℕ × V)) (read : slots ≡ get_or bs i slots) where
    in_slots : value_at (joined self) k ≡ value_at slots k
    in_slots =
        ap (λ xs. value_at (joined xs) k) (sym e) ∙ value_at-joined half bs r k
        ∙ ap (λ x. value_at (bucket_at bs x) k) (sym (is ∙ ap (λ x. place_of half x k) count))
        ∙ ap (λ es. value_at es k)
        (sym (get_or_read bs i slots (place_there half bs r n i k count is (λ z. some (count ∙ z))) read []))

    pub found-value : (slot : ℕ) → key_in slots slot ≡ Some k
        → value_in (bucket_at self i) slot ≡ value_at (joined self) k
    found-value slot at =
        let same_slots : slots ≡ bucket_at bs i =
        get_or_read bs i slots (place_there half bs r n i k count is (λ z. some (count ∙ z))) read [] in
        ap (λ xs. value_in (bucket_at xs i) slot) (sym e) ∙ ap (λ es. value_in es slot) (sym same_slots)
        ∙ sym (value_in-at slots slot k (subst AreApart (sym same_slots) (r.apart i)) at) ∙ sym in_slots

    pub not_found : value_at slots k ≡ None → value_at (joined self) k ≡ None
    not_found none = in_slots ∙ none

  -- ---- a key more

  module _ (half : ℕ) (self bs : List (List (List ℕ × V))) (e : bs ≡ self) (r : AreBuckets half bs) (n i : ℕ)
      (k : List ℕ) (count : n ≡ length bs) (is : i ≡ place_of half n k) (some : 0 < length self)
      (slots : List (List ℕ × V)) (read : slots ≡ get_or bs i slots) (v : V)
      (none : value_at (joined self) k ≡ None) (mid after : List (List (List ℕ × V))) (b0 b : List (List ℕ × V))
      (m : mid ≡ set bs i b0) (a : after ≡ set mid i b) where
    not_zero : length bs ≡ 0 → ⊥
    not_zero z = let seen : length bs ≡ length self = ap (λ xs. length xs) e in omega (arith, z)

    i_there : i < length bs
    i_there = place_there half bs r n i k count is not_zero

    slots_at : slots ≡ bucket_at bs i
    slots_at = get_or_read bs i slots i_there read []

    after_at : after ≡ set bs i b
    after_at = put_back bs mid after i b0 b m a

    place_at : place_of half (length bs) k ≡ i
    place_at = sym (is ∙ ap (λ x. place_of half x k) count)

    none_at : value_at slots k ≡ None
    none_at =
        ap (λ es. value_at es k) slots_at ∙ ap (λ x. value_at (bucket_at bs x) k) (sym place_at)
        ∙ sym (value_at-joined half bs r k) ∙ ap (λ xs. value_at (joined xs) k) e ∙ none

    module _ (pushed : b ≡ slots ++ (k, v) ∷ []) where
      pushed_apart : AreApart b
      pushed_apart =
          subst AreApart (sym pushed) (AreApart-push slots k v none_at (subst AreApart (sym slots_at) (r.apart i)))

      pushed_values : HasNow k (Some v) (bucket_at bs i) b
      pushed_values q =
          ap (λ es. value_at es q) pushed ∙ value_at-push slots k v none_at q
          ∙ ap (λ es. cond (same k q) (Some v) (value_at es q)) slots_at

      added_buckets : AreBuckets half after
      added_buckets =
          subst (AreBuckets half) (sym after_at)
          (changed half bs r i i_there k place_at (Some v) b pushed_apart pushed_values)

      added_values : HasNow k (Some v) (joined self) (joined after)
      added_values q =
          ap (λ xs. value_at (joined xs) q) after_at
          ∙ changed-values half bs r i i_there k place_at (Some v) b pushed_apart pushed_values q
          ∙ ap (λ xs. cond (same k q) (Some v) (value_at (joined xs) q)) e

    kept : b ≡ slots → after ≡ bs
    kept same_slots =
        after_at ∙ ap (set bs i) (same_slots ∙ slots_at) ∙ set-get_or bs i []

    pub added-buckets : {A E : Type 0} (res : Result A E) → OnOk res (b ≡ slots ++ (k, v) ∷ []) → OnErr res (b ≡
        slots)
        → AreBuckets half after
    added-buckets (Ok x) ok err = added_buckets ok
    added-buckets (Err x) ok err = subst (AreBuckets half) (sym (kept err)) r

    pub added-values : {A E : Type 0} (res : Result A E) → OnOk res (b ≡ slots ++ (k, v) ∷ [])
        → OnOk res (HasNow k (Some v) (joined self) (joined after))
    added-values (Ok x) ok = added_values ok
    added-values (Err x) ok = tt

    pub added-kept : {A E : Type 0} (res : Result A E) → OnErr res (b ≡ slots) → OnErr res (joined after ≡ joined
        self)
    added-kept (Ok x) err = tt
    added-kept (Err x) err = ap joined (kept err ∙ e)

  -- the first bucket
  pub first_bucket : (half : ℕ) (bs : List (List (List ℕ × V))) → AreBuckets half bs → length bs ≡ 0
      → AreBuckets half (bs ++ [] ∷ [])
  first_bucket half [] r none = record {
    power = r.power;
    positive = r.positive;
    enough = r.enough;
    few = let some : 0 < half = r.positive in omega arith;
    placed = λ j q other. by j q;
    apart = λ j. apart_by j;
  }
    where
      by : (j : ℕ) (q : List ℕ) → value_at {V = V} (bucket_at ([] ∷ []) j) q ≡ None
      by zero q = refl
      by (suc j) q = refl

      apart_by : (j : ℕ) → AreApart {V = V} (bucket_at ([] ∷ []) j)
      apart_by zero = tt
      apart_by (suc j) = tt
  first_bucket half (b ∷ bs) r none = absurd (omega arith)

  pub no_buckets : AreBuckets {V = V} 1 []
  no_buckets = record {
    power = (0, refl);
    positive = omega arith;
    enough = omega arith;
    few = omega arith;
    placed = λ j q other. refl;
    apart = λ j. tt;
  }

  -- `half` is doubled once there are twice as many
  pub doubled : (half : ℕ) (bs : List (List (List ℕ × V))) → AreBuckets half bs → length bs ≡ 2 * half
      → AreBuckets (2 * half) bs
  doubled half bs r all = record {
    power = (suc r.power.0, ap (λ n. 2 * n) r.power.1 ∙ twice r.power.0);
    positive = let some : 0 < half = r.positive in omega arith;
    enough = omega arith;
    few = omega arith;
    placed = λ j q other. r.placed j q (λ e. other
        (ap (λ n. place_of (2 * half) n q) all ∙ bucket_of-doubled half (spread q) r.positive
        ∙ ap (λ n. place_of half n q) (sym all) ∙ e));
    apart = r.apart;
  }
    where
      twice : (n : ℕ) → 2 * 2 ^ n ≡ 2 ^ suc n
      twice n = sym (pow-succ' 2 n)

  -- the entries of one bucket go to a new one, or stay
  module _ (half : ℕ) (bs : List (List (List ℕ × V))) (r : AreBuckets half bs) (enough : half ≤ length bs)
      (few : length bs < 2 * half) (stay go : List (List ℕ × V)) (after : List (List (List ℕ × V)))
      (stays : stay ≡ filter (staying half (length bs)) (bucket_at bs (length bs - half)))
      (goes_on : go ≡ filter (going half (length bs)) (bucket_at bs (length bs - half)))
      (count : length after ≡ length bs + 1)
      (at_from : bucket_at after (length bs - half) ≡ stay) (at_new : bucket_at after (length bs) ≡ go)
      (at_other : (j : ℕ) → (j ≡ length bs - half → ⊥) → (j ≡ length bs → ⊥) → bucket_at after j ≡ bucket_at bs j)
    where
      -- either a key goes from the one to the other, or it stays in its bucket
      grown : (q : List ℕ)
          → ((place_of half (length bs + 1) q ≡ length bs) × (place_of half (length bs) q ≡ length bs - half))
          ⊎ ((place_of half (length bs + 1) q ≡ place_of half (length bs) q) × (place_of half (length bs) q < length
          bs))
      grown q = bucket_of-grown half (length bs) (spread q) r.positive enough few

      does_go : (q : List ℕ) → place_of half (length bs + 1) q ≡ length bs → goes half (length bs) q ≡ true
      does_go q e = eq-eqb (place_of half (length bs + 1) q) (length bs) e

      does_stay : (q : List ℕ) → (place_of half (length bs + 1) q ≡ length bs → ⊥) → goes half (length bs) q ≡ false
      does_stay q e = ne_eqb (place_of half (length bs + 1) q) (length bs) e

      both_none : (t : Bool) (o : Option V) → o ≡ None → cond t o None ≡ None
      both_none true o e = e
      both_none false o e = refl

      in_stay : (q : List ℕ) → value_at stay q
          ≡ cond (not (goes half (length bs) q)) (value_at (bucket_at bs (length bs - half)) q) None
      in_stay q =
          ap (λ es. value_at es q) stays
          ∙ value_at-filter (λ k. not (goes half (length bs) k)) (bucket_at bs (length bs - half)) q

      in_go : (q : List ℕ) → value_at go q
          ≡ cond (goes half (length bs) q) (value_at (bucket_at bs (length bs - half)) q) None
      in_go q =
          ap (λ es. value_at es q) goes_on ∙ value_at-filter (goes half (length bs)) (bucket_at bs (length bs - half)) q

      none_in_stay : (q : List ℕ) → (place_of half (length bs + 1) q ≡ length bs - half → ⊥) → value_at stay q ≡ None
      none_in_stay q other =
          in_stay q
          ∙ ⊎_elim
          (λ g. ap (λ t. cond (not t) (value_at (bucket_at bs (length bs - half)) q) None) (does_go q g.0))
          (λ g. both_none (not (goes half (length bs) q)) (value_at (bucket_at bs (length bs - half)) q)
          (r.placed (length bs - half) q (λ e. other (g.0 ∙ e))))
          (grown q)

      none_in_go : (q : List ℕ) → (place_of half (length bs + 1) q ≡ length bs → ⊥) → value_at go q ≡ None
      none_in_go q other =
          in_go q ∙ ap (λ t. cond t (value_at (bucket_at bs (length bs - half)) q) None) (does_stay q other)

      placed_after : (j : ℕ) (q : List ℕ) → (place_of half (length bs + 1) q ≡ j → ⊥)
          → value_at (bucket_at after j) q ≡ None
      placed_after j q other =
          ⊎_elim
          (λ e. ap (λ n. value_at (bucket_at after n) q) e ∙ ap (λ es. value_at es q) at_from
          ∙ none_in_stay q (λ f. other (f ∙ sym e)))
          (λ away. ⊎_elim
          (λ e. ap (λ n. value_at (bucket_at after n) q) e ∙ ap (λ es. value_at es q) at_new
          ∙ none_in_go q (λ f. other (f ∙ sym e)))
          (λ far. ap (λ es. value_at es q) (at_other j away far)
          ∙ r.placed j q (λ e. ⊎_elim (λ g. away (sym e ∙ g.1)) (λ g. other (g.0 ∙ e)) (grown q)))
          (cases_eq j (length bs)))
          (cases_eq j (length bs - half))

      same_value : (q : List ℕ) → value_at (bucket_at after (place_of half (length bs + 1) q)) q
          ≡ value_at (bucket_at bs (place_of half (length bs) q)) q
      same_value q =
          ⊎_elim
          (λ g. ap (λ n. value_at (bucket_at after n) q) g.0 ∙ ap (λ es. value_at es q) at_new ∙ in_go q
          ∙ ap (λ t. cond t (value_at (bucket_at bs (length bs - half)) q) None) (does_go q g.0)
          ∙ ap (λ n. value_at (bucket_at bs n) q) (sym g.1))
          (λ g.
          let not_new : place_of half (length bs + 1) q ≡ length bs → ⊥ = λ e. omega (arith, g.0, g.1, e) in
          ap (λ n. value_at (bucket_at after n) q) g.0
          ∙ ⊎_elim
          (λ e. ap (λ n. value_at (bucket_at after n) q) e ∙ ap (λ es. value_at es q) at_from ∙ in_stay q
          ∙ ap (λ t. cond (not t) (value_at (bucket_at bs (length bs - half)) q) None) (does_stay q not_new)
          ∙ ap (λ n. value_at (bucket_at bs n) q) (sym e))
          (λ away. ap (λ es. value_at es q)
          (at_other (place_of half (length bs) q) away (λ e. omega (arith, g.1, e))))
          (cases_eq (place_of half (length bs) q) (length bs - half)))
          (grown q)

      pub split : AreBuckets half after
      split = record {
        power = r.power;
        positive = r.positive;
        enough = omega (arith, count, enough);
        few = omega (arith, count, few);
        placed = λ j q other. placed_after j q (λ e. other (ap (λ n. place_of half n q) count ∙ e));
        apart = λ j.
            ⊎_elim
            (λ e. subst AreApart (sym (ap (bucket_at after) e ∙ at_from ∙ stays))
            (AreApart-filter (λ k. not (goes half (length bs) k)) (bucket_at bs (length bs - half)) (r.apart (length bs
            - half))))
            (λ away. ⊎_elim
            (λ e. subst AreApart (sym (ap (bucket_at after) e ∙ at_new ∙ goes_on))
            (AreApart-filter (goes half (length bs)) (bucket_at bs (length bs - half)) (r.apart (length bs - half))))
            (λ far. subst AreApart (sym (at_other j away far)) (r.apart j))
            (cases_eq j (length bs)))
            (cases_eq j (length bs - half));
      }

      pub split-values : SameValues (joined bs) (joined after)
      split-values q =
          value_at-joined half after split q
          ∙ ap (λ n. value_at (bucket_at after (place_of half n q)) q) count
          ∙ same_value q ∙ sym (value_at-joined half bs r q)

  -- ---- the next split

  pub next_buckets : (half next : ℕ) (bs : List (List (List ℕ × V))) (n : ℕ) → AreBuckets half bs → n ≡ length bs
      → next ≡ cond (nat_eq n (2 * half)) (2 * half) half → AreBuckets next bs
  next_buckets half next bs n r count is =
      ⊎_elim
      (λ t. subst (λ x. AreBuckets x bs) (sym (is ∙ cond-true (nat_eq n (2 * half)) (2 * half) half t))
      (doubled half bs r (sym count ∙ eqb-true n (2 * half) t)))
      (λ f. subst (λ x. AreBuckets x bs) (sym (is ∙ cond-false (nat_eq n (2 * half)) (2 * half) half f)) r)
      (cases_Bool (nat_eq n (2 * half)))

  module _ (half : ℕ) (self bs : List (List (List ℕ × V))) (e : bs ≡ self) (r : AreBuckets half bs) (n : ℕ)
      (count : n ≡ length bs) (enough : half ≤ n) (few : n < 2 * half)
      (rows1 rows2 rows3 rows4 : List (List (List ℕ × V))) (new1 new2 slots stay go : List (List ℕ × V))
      (at1 : rows1 ≡ bs ++ new1 ∷ []) (read : slots ≡ get_or rows1 (n - half) slots)
      (at2 : rows2 ≡ set rows1 (n - half) new2) (at3 : rows3 ≡ set rows2 (n - half) stay) where
    long1 : length rows1 ≡ length bs + 1
    long1 = ap (λ xs. length xs) at1 ∙ length_push bs new1

    from_there : n - half < length bs
    from_there = let pos : 0 < half = r.positive in omega (arith, count, enough, few)

    slots_from : slots ≡ bucket_at bs (n - half)
    slots_from =
        get_or_read rows1 (n - half) slots (omega (arith, long1, from_there)) read []
        ∙ ap (λ xs. bucket_at xs (n - half)) at1
        ∙ get_or_append_left bs (new1 ∷ []) [] (n - half) from_there

    rows3_is : rows3 ≡ set rows1 (n - half) stay
    rows3_is = put_back rows1 rows2 rows3 (n - half) new2 stay at2 at3

    -- nothing is split: all is put back
    pub put_all_back : stay ≡ slots → rows4 ≡ take (length rows3 - 1) rows3 → rows4 ≡ bs
    put_all_back same_slots popped =
        let whole : rows3 ≡ bs ++ new1 ∷ [] =
        rows3_is ∙ ap (set rows1 (n - half))
        (same_slots ∙ get_or_read rows1 (n - half) slots (omega (arith, long1, from_there)) read [])
        ∙ set-get_or rows1 (n - half) [] ∙ at1 in
        let long : length rows3 - 1 ≡ length bs =
        ap (λ xs. length xs - 1) whole ∙ ap (λ x. x - 1) (length_push bs new1) ∙ omega arith in
        popped ∙ ap (λ x. take x rows3) long ∙ ap (take (length bs)) whole ∙ take_at bs (new1 ∷ []) (length bs) refl

    module _ (stays : stay ≡ filter (staying half n) slots) (goes_on : go ≡ filter (going half n) slots)
        (at4 : rows4 ≡ set rows3 n go) where
      long3 : length rows3 ≡ length bs + 1
      long3 = ap (λ xs. length xs) rows3_is ∙ length-set rows1 (n - half) stay ∙ long1

      at_new3 : bucket_at rows4 (length bs) ≡ go
      at_new3 =
          ap (λ xs. bucket_at xs (length bs)) (at4 ∙ ap (λ x. set rows3 x go) count)
          ∙ get_or-set_same rows3 (length bs) go [] (omega (arith, long3))

      at_from3 : bucket_at rows4 (length bs - half) ≡ stay
      at_from3 =
          ap (λ xs. bucket_at xs (length bs - half)) (at4 ∙ ap (λ x. set rows3 x go) count)
          ∙ get_or-set_other rows3 (length bs) (length bs - half) go []
          (λ z. let pos : 0 < half = r.positive in omega (arith, z, count, enough, few))
          ∙ ap (λ xs. bucket_at xs (length bs - half)) (rows3_is ∙ ap (λ x. set rows1 (x - half) stay) count)
          ∙ get_or-set_same rows1 (length bs - half) stay [] (omega (arith, long1))

      at_other3 : (j : ℕ) → (j ≡ length bs - half → ⊥) → (j ≡ length bs → ⊥) → bucket_at rows4 j ≡ bucket_at bs j
      at_other3 j away far =
          ap (λ xs. bucket_at xs j) (at4 ∙ ap (λ x. set rows3 x go) count)
          ∙ get_or-set_other rows3 (length bs) j go [] far
          ∙ ap (λ xs. bucket_at xs j) (rows3_is ∙ ap (λ x. set rows1 (x - half) stay) count)
          ∙ get_or-set_other rows1 (length bs - half) j stay [] away
          ∙ ap (λ xs. bucket_at xs j) at1
          ∙ ⊎_elim (λ low. get_or_append_left bs (new1 ∷ []) [] j low)
          (λ high. get_or_past (bs ++ new1 ∷ []) j [] (let l : length (bs ++ new1 ∷ []) ≡ length bs + 1 = length_push
          bs new1 in omega (arith, far))
          ∙ sym (get_or_past bs j [] high))
          (cases_lt j (length bs))

      stays_from : stay ≡ filter (staying half (length bs)) (bucket_at bs (length bs - half))
      stays_from =
          stays ∙ ap (filter (staying half n)) slots_from
          ∙ ap (λ x. filter (staying half x) (bucket_at bs (x - half))) count

      goes_from : go ≡ filter (going half (length bs)) (bucket_at bs (length bs - half))
      goes_from =
          goes_on ∙ ap (filter (going half n)) slots_from
          ∙ ap (λ x. filter (going half x) (bucket_at bs (x - half))) count

      long4 : length rows4 ≡ length bs + 1
      long4 = ap (λ xs. length xs) at4 ∙ length-set rows3 n go ∙ long3

      pub split-buckets : AreBuckets half rows4
      split-buckets =
          split half bs r (omega (arith, count, enough)) (omega (arith, count, few)) stay go rows4 stays_from
          goes_from long4
          at_from3 at_new3 at_other3

      pub split-same : SameValues (joined self) (joined rows4)
      split-same q =
          split-values half bs r (omega (arith, count, enough)) (omega (arith, count, few)) stay go rows4 stays_from
          goes_from long4 at_from3 at_new3 at_other3 q
          ∙ ap (λ xs. value_at (joined xs) q) e
