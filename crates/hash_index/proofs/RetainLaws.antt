-- What is left of entries once those went whose values weren't to stay.
use Rattle.std.proofs.Common.{◌≡◌, ℕ, zero, suc, ◌+◌, ◌<◌, ◌≤◌, ◌*◌, max, Bool, true, false, cond, List, [], ◌∷◌, ◌++◌}
use Rattle.std.proofs.Common.{length, take, drop, set, get_or, append-nil}
use Rattle.std.proofs.Common.{Option, None, Some, refl, sym, ap, ◌∙◌, ⊎_elim, arith, subst}
use Rattle.std.specs.Option.{IsSome, option_or}
use Rattle.std.specs.List.{remove}
use Rattle.std.specs.Map.Calls.{RetainsPairs}
use Rattle.std.proofs.lemmas.Bool.{cases_eq, cases_lt}
use Rattle.std.proofs.lemmas.List.{get_or-set_same, get_or-set_other, get_or_past, get_or_read, length-set, take_all}
use Rattle.std.proofs.lemmas.List.{drop_all}
use Rattle.table.proofs.TreeKeyLaws.{tree_key_tie}
use Rattle.hash_index.specs.Places.{place_of}
use Rattle.hash_index.specs.Entries.{value_at, AreApart}
use Rattle.hash_index.specs.Tables.{joined, bucket_at, AreBuckets}
use Rattle.hash_index.specs.Retained.{IsRetained, BecameOf, AreRetained}
use Rattle.hash_index.proofs.EntryLaws.{same, value_at-append, not_both, AreApart-append, AreApart-right}
use Rattle.hash_index.proofs.SplitLaws.{value_at-joined, put_back}
use Rattle.hash_index.proofs.IndexLaws.{length-set_bucket, other_of}

module _ {V : Type 0} (T : V → Bool → V → Type 0) where
  -- of no value comes none
  pub none_left : (o p : Option V) → BecameOf T o p → o ≡ None → p ≡ None
  none_left None p h e = h
  none_left (Some v) p h e = cc

  -- what is left was there
  pub some_before : (o p : Option V) → BecameOf T o p → IsSome p → IsSome o
  some_before None p h some = absurd (not_both p h some)
  some_before (Some v) p h some = refl

  -- ---- a list of entries

  step : (c b : Bool) (v w : V) (o p : Option V) → T v b w → BecameOf T o p → (c ≡ true → o ≡ None)
      → BecameOf T (cond c (Some v) o) (cond b (cond c (Some w) p) p)
  step true true v w o p t r none = (true, w, t, refl)
  step true false v w o p t r none = (false, w, t, none_left o p r (none refl))
  step false true v w o p t r none = r
  step false false v w o p t r none = r

  value_in_front : (b : Bool) (x : List ℕ) (w : V) (rest : List (List ℕ × V)) (q : List ℕ)
      → value_at (cond b ((x, w) ∷ rest) rest) q
      ≡ cond b (cond (same q x) (Some w) (value_at rest q)) (value_at rest q)
  value_in_front true x w rest q = refl
  value_in_front false x w rest q = refl

  -- each key has what became of its value
  pub values : (es fs : List (List ℕ × V)) → IsRetained T es fs → AreApart es → AreRetained T es fs
  values [] fs h a q = ap (λ xs. value_at xs q) h
  values (e ∷ es) fs h a q =
      subst (BecameOf T (value_at (e ∷ es) q))
      (sym (ap (λ xs. value_at xs q) h.5 ∙ value_in_front h.0 e.0 h.1 h.2 q))
      (step (same q e.0) h.0 e.1 h.1 (value_at es q) (value_at h.2 q) h.3 (values es h.2 h.4 a.1 q)
      (λ t. ap (value_at es) (tree_key_tie q e.0 t) ∙ a.0))

  in_front : (b : Bool) (x : List ℕ) (w : V) (rest : List (List ℕ × V)) → value_at rest x ≡ None → AreApart rest
      → AreApart (cond b ((x, w) ∷ rest) rest)
  in_front true x w rest none a = (none, a)
  in_front false x w rest none a = a

  -- no two of those that are left have one key
  pub apart : (es fs : List (List ℕ × V)) → IsRetained T es fs → AreApart es → AreApart fs
  apart [] fs h a = subst AreApart (sym h) tt
  apart (e ∷ es) fs h a =
      subst AreApart (sym h.5)
      (in_front h.0 e.0 h.1 h.2
      (none_left (value_at es e.0) (value_at h.2 e.0) (values es h.2 h.4 a.1 e.0) a.0)
      (apart es h.2 h.4 a.1))

  longer : (b : Bool) (x : List ℕ × V) (rest : List (List ℕ × V)) (n : ℕ) → length rest ≤ n
      → length (cond b (x ∷ rest) rest) ≤ suc n
  longer true x rest n le = omega (arith, le)
  longer false x rest n le = omega (arith, le)

  -- there are no more than before
  pub fewer : (es fs : List (List ℕ × V)) → IsRetained T es fs → length fs ≤ length es
  fewer [] fs h = omega (arith, ap (λ xs. length xs) h)
  fewer (e ∷ es) fs h =
      let is : length fs ≡ length (cond h.0 ((e.0, h.1) ∷ h.2) h.2) = ap (λ xs. length xs) h.5 in
      let most = longer h.0 (e.0, h.1) h.2 (length es) (fewer es h.2 h.4) in
      omega (arith, is, most)

  -- ---- a list, slot by slot

  module _ (es : List (List ℕ × V)) where
    abbrev pub IsLeftBy : List (List ℕ × V) → ℕ → Type 0
    IsLeftBy now i = (fs : List (List ℕ × V)) → IsRetained T (drop i now) fs → IsRetained T es (take i now ++ fs)

  stayed : (now : List (List ℕ × V)) (i : ℕ) (x y : List ℕ × V) → i < length now → x ≡ get_or now i x → y.0 ≡ x.0
      → T x.1 true y.1 → (fs : List (List ℕ × V)) → IsRetained T (drop (suc i) (set now i y)) fs
      → IsRetained T (drop i now) (y ∷ fs)
  stayed [] i x y within is key t fs h = absurd (omega (arith, within))
  stayed (e ∷ es) zero x y within is key t fs h = (
    true,
    y.1,
    fs,
    subst (λ (z : List ℕ × V). T z.1 true y.1) is t,
    h,
    ap (λ k. (k, y.1) ∷ fs) (key ∙ ap (λ (z : List ℕ × V). z.0) is),
  )
  stayed (e ∷ es) (suc i) x y within is key t fs h = stayed es i x y (omega (arith, within)) is key t fs h

  stayed_front : (now : List (List ℕ × V)) (i : ℕ) (y : List ℕ × V) → i < length now → (fs : List (List ℕ × V))
      → take (suc i) (set now i y) ++ fs ≡ take i now ++ y ∷ fs
  stayed_front [] i y within fs = absurd (omega (arith, within))
  stayed_front (e ∷ es) zero y within fs = refl
  stayed_front (e ∷ es) (suc i) y within fs = ap (λ xs. e ∷ xs) (stayed_front es i y (omega (arith, within)) fs)

  went : (now : List (List ℕ × V)) (i : ℕ) (x y : List ℕ × V) → i < length now → x ≡ get_or now i x
      → T x.1 false y.1 → (fs : List (List ℕ × V)) → IsRetained T (drop i (remove (set now i y) i)) fs
      → IsRetained T (drop i now) fs
  went [] i x y within is t fs h = absurd (omega (arith, within))
  went (e ∷ es) zero x y within is t fs h =
      (false, y.1, fs, subst (λ (z : List ℕ × V). T z.1 false y.1) is t, h, refl)
  went (e ∷ es) (suc i) x y within is t fs h = went es i x y (omega (arith, within)) is t fs h

  went_front : (now : List (List ℕ × V)) (i : ℕ) (y : List ℕ × V) → i < length now
      → take i (remove (set now i y) i) ≡ take i now
  went_front [] i y within = absurd (omega (arith, within))
  went_front (e ∷ es) zero y within = refl
  went_front (e ∷ es) (suc i) y within = ap (λ xs. e ∷ xs) (went_front es i y (omega (arith, within)))

  went_within : (now : List (List ℕ × V)) (i : ℕ) (y : List ℕ × V) → i < length now
      → i ≤ length (remove (set now i y) i)
  went_within [] i y within = absurd (omega (arith, within))
  went_within (e ∷ es) zero y within = omega arith
  went_within (e ∷ es) (suc i) y within =
      let rest = went_within es i y (omega (arith, within)) in
      omega (arith, rest)

  module _ (es now : List (List ℕ × V)) (i : ℕ) (x y : List ℕ × V) (within : i < length now)
      (is : x ≡ get_or now i x) where
    pub next_stays : y.0 ≡ x.0 → T x.1 true y.1 → IsLeftBy es now i → IsLeftBy es (set now i y) (i + 1)
    next_stays key t left fs h =
        let on : i + 1 ≡ suc i = omega arith in
        subst (IsRetained T es) (sym (ap (λ n. take n (set now i y) ++ fs) on ∙ stayed_front now i y within fs))
        (left (y ∷ fs) (stayed now i x y within is key t fs (subst (λ n. IsRetained T (drop n (set now i y)) fs) on h)))

    module _ (after : List (List ℕ × V)) (gone : after ≡ remove (set now i y) i) where
      pub next_goes : T x.1 false y.1 → IsLeftBy es now i → IsLeftBy es after i
      next_goes t left fs h =
          subst (λ xs. IsRetained T es (xs ++ fs)) (sym (ap (take i) gone ∙ went_front now i y within))
          (left fs (went now i x y within is t fs (subst (λ xs. IsRetained T (drop i xs) fs) gone h)))

      pub next_within : i ≤ length after
      next_within = subst (λ xs. i ≤ length xs) (sym gone) (went_within now i y within)

  pub all_looked_at : (es now : List (List ℕ × V)) (i : ℕ) → IsLeftBy es now i → length now ≤ i → IsRetained T es now
  all_looked_at es now i left past =
      subst (IsRetained T es) (append-nil (take i now) ∙ take_all i now past) (left []
      (subst (λ xs. IsRetained T xs []) (sym (drop_all i now past)) refl))

  -- ---- a tree, by its own call

  module _ {F : Type 0} (S : F → List ℕ → V → Bool → V → F → Type 0)
      (called : (f : F) (k : List ℕ) (v : V) (b : Bool) (w : V) (g : F) → S f k v b w g → T v b w) where
    pub from_pairs : (es fs : List (List ℕ × V)) (f : F) → RetainsPairs S f es fs → IsRetained T es fs
    from_pairs [] fs f r = r
    from_pairs (e ∷ es) fs f r =
        (r.0, r.1, r.3, called f e.0 e.1 r.0 r.1 r.2 r.4, from_pairs es r.3 r.2 r.5, r.6)

  -- ---- one bucket after another

  module _ (bs mid after : List (List (List ℕ × V))) (i : ℕ) (b0 b c : List (List ℕ × V)) (within : i < length bs)
      (read : b ≡ get_or bs i b) (m : mid ≡ set bs i b0) (a : after ≡ set mid i c) where
    is_read : b ≡ bucket_at bs i
    is_read = get_or_read bs i b within read []

    is_put : after ≡ set bs i c
    is_put = put_back bs mid after i b0 c m a

    pub swept_count : length after ≡ length bs
    swept_count = ap (λ xs. length xs) is_put ∙ length-set bs i c

    pub swept_this : IsRetained T b c → IsRetained T (bucket_at bs i) (bucket_at after i)
    swept_this r =
        subst (λ x. IsRetained T x (bucket_at after i)) is_read
        (subst (IsRetained T b) (sym (ap (λ xs. bucket_at xs i) is_put ∙ get_or-set_same bs i c [] within)) r)

    pub swept_others : (j : ℕ) → (j ≡ i → ⊥) → bucket_at after j ≡ bucket_at bs j
    swept_others j other = ap (λ xs. bucket_at xs j) is_put ∙ get_or-set_other bs i j c [] other

    pub swept_gone : (gone : ℕ) → gone + length c ≡ length b → gone + length (joined after) ≡ length (joined bs)
    swept_gone gone less =
        let sum = length-set_bucket bs i c within in
        let whole : length (joined after) ≡ length (joined (set bs i c)) = ap (λ xs. length (joined xs)) is_put in
        let here : length (bucket_at bs i) ≡ length b = ap (λ es. length es) (sym is_read) in
        omega (arith, less)

  module _ (bs now : List (List (List ℕ × V))) (i : ℕ)
      (done : (j : ℕ) → j < i → IsRetained T (bucket_at bs j) (bucket_at now j))
      (left : (j : ℕ) → (j < i → ⊥) → bucket_at now j ≡ bucket_at bs j) where
    module _ (after : List (List (List ℕ × V))) (this : IsRetained T (bucket_at now i) (bucket_at after i))
        (others : (j : ℕ) → (j ≡ i → ⊥) → bucket_at after j ≡ bucket_at now j) where
      pub next_done : (j : ℕ) → j < i + 1 → IsRetained T (bucket_at bs j) (bucket_at after j)
      next_done j below =
          ⊎_elim
          (λ e. subst (λ n. IsRetained T (bucket_at bs n) (bucket_at after n)) (sym e)
          (subst (λ x. IsRetained T x (bucket_at after i)) (left i (λ lt. absurd (omega (arith, lt)))) this))
          (λ other. subst (IsRetained T (bucket_at bs j)) (sym (others j other))
          (done j (lower j below other)))
          (cases_eq j i)
        where
          lower : (j : ℕ) → j < i + 1 → (j ≡ i → ⊥) → j < i
          lower j below other = omega (arith, below, other)

      pub next_left : (j : ℕ) → (j < i + 1 → ⊥) → bucket_at after j ≡ bucket_at bs j
      next_left j above =
          others j (λ e. above (omega (arith, e))) ∙ left j (λ lt. above (omega (arith, lt)))

    pub all_done : length bs ≤ i → length now ≡ length bs → (j : ℕ) → IsRetained T (bucket_at bs j) (bucket_at now j)
    all_done past count j =
        ⊎_elim (λ below. done j below)
        (λ over.
        let old : bucket_at bs j ≡ [] = get_or_past bs j [] (omega (arith, over, past)) in
        let new : bucket_at now j ≡ [] = get_or_past now j [] (omega (arith, over, past, count)) in
        subst (λ x. IsRetained T x (bucket_at now j)) (sym old) new)
        (cases_lt j i)

  -- ---- all buckets

  module _ (half : ℕ) (bs cs : List (List (List ℕ × V))) (r : AreBuckets half bs) (count : length cs ≡ length bs)
      (each : (j : ℕ) → IsRetained T (bucket_at bs j) (bucket_at cs j)) where
    pub retained-buckets : AreBuckets half cs
    retained-buckets = record {
      power = r.power;
      positive = r.positive;
      enough = subst (λ n. half ≤ max 1 n) (sym count) r.enough;
      few = subst (λ n. n ≤ 2 * half) (sym count) r.few;
      placed = λ j q other.
          none_left (value_at (bucket_at bs j) q) (value_at (bucket_at cs j) q)
          (values (bucket_at bs j) (bucket_at cs j) (each j) (r.apart j) q)
          (r.placed j q (λ e. other (ap (λ n. place_of half n q) count ∙ e)));
      apart = λ j. apart (bucket_at bs j) (bucket_at cs j) (each j) (r.apart j);
    }

    pub retained-values : AreRetained T (joined bs) (joined cs)
    retained-values q =
        let place = place_of half (length bs) q in
        let new : value_at (joined cs) q ≡ value_at (bucket_at cs place) q =
        value_at-joined half cs retained-buckets q
        ∙ ap (λ n. value_at (bucket_at cs (place_of half n q)) q) count in
        subst (BecameOf T (value_at (joined bs) q)) (sym new)
        (subst (λ o. BecameOf T o (value_at (bucket_at cs place) q)) (sym (value_at-joined half bs r q))
        (values (bucket_at bs place) (bucket_at cs place) (each place) (r.apart place) q))

  -- ---- an index

  either : (o p x y : Option V) → BecameOf T o x → BecameOf T p y → (IsSome o → p ≡ None)
      → BecameOf T (option_or o p) (option_or x y)
  either None p x y h g lone = subst (λ z. BecameOf T p (option_or z y)) (sym h) g
  either (Some v) p x y h g lone =
      (h.0, h.1, h.2, left x y (cond h.0 (Some h.1) None) h.3 (none_left p y g (lone refl)))
    where
      left : (x y z : Option V) → x ≡ z → y ≡ None → option_or x y ≡ z
      left None y z e none = none ∙ e
      left (Some w) y z e none = e

  module _ (xs ys zs ws : List (List ℕ × V)) (a : AreApart (xs ++ ys)) (b : AreApart zs)
      (h : AreRetained T xs zs) (g : IsRetained T ys ws) where
    rest_values : AreRetained T ys ws
    rest_values = values ys ws g (AreApart-right xs ys a)

    pub both-values : AreRetained T (xs ++ ys) (zs ++ ws)
    both-values q =
        subst (BecameOf T (value_at (xs ++ ys) q)) (sym (value_at-append zs ws q))
        (subst (λ o. BecameOf T o (option_or (value_at zs q) (value_at ws q))) (sym (value_at-append xs ys q))
        (either (value_at xs q) (value_at ys q) (value_at zs q) (value_at ws q) (h q) (rest_values q)
        (other_of xs ys a q)))

    pub both-apart : AreApart (zs ++ ws)
    both-apart =
        AreApart-append zs ws b (apart ys ws g (AreApart-right xs ys a))
        (λ q some. none_left (value_at ys q) (value_at ws q) (rest_values q)
        (other_of xs ys a q (some_before (value_at xs q) (value_at zs q) (h q) some)))
