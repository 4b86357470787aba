-- Values in rows of one size, by their positions.
use Rattle.std.proofs.Common.{◌≡◌, ℕ, zero, suc, ◌+◌, ◌-◌, ◌*◌, ◌/◌, ◌%◌, ◌<◌, ◌≤◌, List, [], ◌∷◌, ◌++◌, length, set}
use Rattle.std.proofs.Common.{get_or}
use Rattle.std.proofs.Common.{
  take,
  vec_len,
  refl,
  sym,
  ap,
  ◌∙◌,
  arith,
  subst,
  append-nil,
  append_assoc,
  length-append,
}
use Rattle.std.specs.Prelude.{Result, Ok, Err, OnOk, OnErr}
use Rattle.std.specs.Global.{Vec}
use Rattle.std.proofs.lemmas.List.{get_or_append_left, get_or-append_right, set-append_left, set-append_right}
use Rattle.std.proofs.lemmas.List.{length_push, take_at}
use Rattle.std.proofs.lemmas.List.Concat.{flat_map-append}
use Rattle.hash_index.specs.Rows.{joined_rows, AreRows}

-- what holds anyhow
pub on_err : {A E P : Type 0} (r : Result A E) → P → OnErr r P
on_err (Ok x) p = tt
on_err (Err e) p = p

pub on_ok : {A E P : Type 0} (r : Result A E) → P → OnOk r P
on_ok (Ok x) p = p
on_ok (Err e) p = tt

module _ {T : Type 0} where
  -- the count is the length
  pub length-rows : (rows : List (Vec T)) (count : ℕ) → AreRows rows count → length (joined_rows rows) ≡ count
  length-rows [] count r = sym r
  length-rows (r ∷ rs) count (here, later) =
      let rest : length (joined_rows rs) ≡ count - 512 = length-rows rs (count - 512) later in
      length-append r.items (joined_rows rs) ∙ omega arith

  -- rows have room for the count
  pub rows_enough : (rows : List (Vec T)) (count : ℕ) → AreRows rows count → count ≤ 512 * length rows
  rows_enough [] count r = omega arith
  rows_enough (r ∷ rs) count (here, later) =
      let rest : count - 512 ≤ 512 * length rs = rows_enough rs (count - 512) later in
      omega arith

  pub no_values : (rows : List (Vec T)) (count : ℕ) → AreRows rows count → count ≡ 0 → joined_rows rows ≡ []
  no_values [] count r none = refl
  no_values (r ∷ rs) count (here, later) none =
      let first : r.items ≡ [] = nil r.items (here ∙ omega arith) in
      ap (λ xs. xs ++ joined_rows rs) first ∙ no_values rs (count - 512) later (omega arith)
    where
      nil : (xs : List T) → length xs ≡ 0 → xs ≡ []
      nil [] e = refl
      nil (x ∷ xs) e = absurd (omega arith)

  -- where a value stands
  pub row_within : (rows : List (Vec T)) (a b count : ℕ) → AreRows rows count → 512 * a + b < count → b < 512
      → a < length rows
  row_within [] a b count r within low = absurd (omega arith)
  row_within (r ∷ rs) zero b count (here, later) within low = omega arith
  row_within (r ∷ rs) (suc a) b count (here, later) within low =
      let rest : a < length rs = row_within rs a b (count - 512) later (omega arith) low in
      omega arith

  pub place_within : (rows : List (Vec T)) (a b count : ℕ) (e : Vec T) → AreRows rows count → 512 * a + b < count
      → b < 512 → b < length (get_or rows a e).items
  place_within [] a b count e r within low = absurd (omega arith)
  place_within (r ∷ rs) zero b count e (here, later) within low = omega arith
  place_within (r ∷ rs) (suc a) b count e (here, later) within low =
      place_within rs a b (count - 512) e later (omega arith) low

  pub get_row : (rows : List (Vec T)) (a b count : ℕ) (e : Vec T) (d : T) → AreRows rows count
      → 512 * a + b < count → b < 512
      → get_or (joined_rows rows) (512 * a + b) d ≡ get_or (get_or rows a e).items b d
  get_row [] a b count e d r within low = absurd (omega arith)
  get_row (r ∷ rs) zero b count e d (here, later) within low =
      let at : 512 * 0 + b ≡ b = omega arith in
      ap (λ i. get_or (r.items ++ joined_rows rs) i d) at
      ∙ get_or_append_left r.items (joined_rows rs) d b (omega arith)
  get_row (r ∷ rs) (suc a) b count e d (here, later) within low =
      let full : length r.items ≡ 512 = omega arith in
      let at : 512 * suc a + b - 512 ≡ 512 * a + b = omega arith in
      get_or-append_right r.items (joined_rows rs) 512 (512 * suc a + b) d full (omega arith)
      ∙ ap (λ i. get_or (joined_rows rs) i d) at
      ∙ get_row rs a b (count - 512) e d later (omega arith) low

  -- another value at a position
  pub set_row : (rows : List (Vec T)) (a b count : ℕ) (e s : Vec T) (x : T) → AreRows rows count
      → 512 * a + b < count → b < 512 → s.items ≡ set (get_or rows a e).items b x
      → joined_rows (set rows a s) ≡ set (joined_rows rows) (512 * a + b) x
  set_row [] a b count e s x r within low is = absurd (omega arith)
  set_row (r ∷ rs) zero b count e s x (here, later) within low is =
      let at : b ≡ 512 * 0 + b = omega arith in
      ap (λ xs. xs ++ joined_rows rs) is ∙ sym (set-append_left r.items (joined_rows rs) b x (omega arith))
      ∙ ap (λ i. set (r.items ++ joined_rows rs) i x) at
  set_row (r ∷ rs) (suc a) b count e s x (here, later) within low is =
      let full : length r.items ≡ 512 = omega arith in
      let at : 512 * a + b ≡ 512 * suc a + b - 512 = omega arith in
      ap (λ xs. r.items ++ xs) (set_row rs a b (count - 512) e s x later (omega arith) low is
      ∙ ap (λ i. set (joined_rows rs) i x) at)
      ∙ sym (set-append_right r.items (joined_rows rs) 512 (512 * suc a + b) x full (omega arith))

  pub set_row-are_rows : (rows : List (Vec T)) (a count : ℕ) (e s : Vec T) → AreRows rows count
      → length s.items ≡ length (get_or rows a e).items → AreRows (set rows a s) count
  set_row-are_rows [] a count e s r same = r
  set_row-are_rows (r ∷ rs) zero count e s (here, later) same = (same ∙ here, later)
  set_row-are_rows (r ∷ rs) (suc a) count e s (here, later) same =
      (here, set_row-are_rows rs a (count - 512) e s later same)

  -- a row more
  pub new_row : (rows : List (Vec T)) (count : ℕ) (e : Vec T) → AreRows rows count → e.items ≡ []
      → AreRows (rows ++ e ∷ []) count
  new_row [] count e r none =
      let some : length e.items ≡ 0 = ap (λ xs. length xs) none in
      let zero_count : count ≡ 0 = r in
      (omega arith, omega arith)
  new_row (r ∷ rs) count e (here, later) none = (here, new_row rs (count - 512) e later none)

  pub new_row-joined : (rows : List (Vec T)) (e : Vec T) → e.items ≡ []
      → joined_rows (rows ++ e ∷ []) ≡ joined_rows rows
  new_row-joined rows e none =
      flat_map-append (λ r. r.items) rows (e ∷ [])
      ∙ ap (λ xs. joined_rows rows ++ (xs ++ [])) none ∙ append-nil (joined_rows rows)

  -- a value more
  pub push_row : (rows : List (Vec T)) (a b count : ℕ) (e s : Vec T) (x : T) → AreRows rows count
      → 512 * a + b ≡ count → b < 512 → a < length rows → s.items ≡ (get_or rows a e).items ++ x ∷ []
      → joined_rows (set rows a s) ≡ joined_rows rows ++ x ∷ []
  push_row [] a b count e s x r at low within is = absurd (omega arith)
  push_row (r ∷ rs) zero b count e s x (here, later) at low within is =
      let none : joined_rows rs ≡ [] = no_values rs (count - 512) later (omega arith) in
      ap (λ xs. s.items ++ xs) none ∙ append-nil s.items ∙ is
      ∙ ap (λ xs. xs ++ x ∷ []) (sym (append-nil r.items) ∙ ap (λ xs. r.items ++ xs) (sym none))
  push_row (r ∷ rs) (suc a) b count e s x (here, later) at low within is =
      ap (λ xs. r.items ++ xs) (push_row rs a b (count - 512) e s x later (omega arith) low (omega arith) is)
      ∙ sym (append_assoc r.items (joined_rows rs) (x ∷ []))

  pub push_row-are_rows : (rows : List (Vec T)) (a b count : ℕ) (e s : Vec T) (x : T) → AreRows rows count
      → 512 * a + b ≡ count → b < 512 → a < length rows → s.items ≡ (get_or rows a e).items ++ x ∷ []
      → AreRows (set rows a s) (count + 1)
  push_row-are_rows [] a b count e s x r at low within is = absurd (omega arith)
  push_row-are_rows (r ∷ rs) zero b count e s x (here, later) at low within is =
      let more : length s.items ≡ length r.items + 1 = ap (λ xs. length xs) is ∙ length_push r.items x in
      let left : count - 512 ≡ count + 1 - 512 = omega arith in
      (omega arith, subst (λ n. AreRows rs n) left later)
  push_row-are_rows (r ∷ rs) (suc a) b count e s x (here, later) at low within is =
      let left : count - 512 + 1 ≡ count + 1 - 512 = omega arith in (
        omega arith,
        subst (λ n. AreRows (set rs a s) n) left
            (push_row-are_rows rs a b (count - 512) e s x later (omega arith) low (omega arith) is),
      )

  -- a value less
  pub pop_row : (rows : List (Vec T)) (a b count : ℕ) (e s : Vec T) (x : T) → AreRows rows count
      → 512 * a + b + 1 ≡ count → b < 512 → (get_or rows a e).items ≡ s.items ++ x ∷ [] → a < length rows
      → joined_rows rows ≡ joined_rows (set rows a s) ++ x ∷ []
  pop_row [] a b count e s x r at low is within = absurd (omega arith)
  pop_row (r ∷ rs) zero b count e s x (here, later) at low is within =
      let none : joined_rows rs ≡ [] = no_values rs (count - 512) later (omega arith) in
      ap (λ xs. r.items ++ xs) none ∙ append-nil r.items ∙ is
      ∙ ap (λ xs. xs ++ x ∷ []) (sym (append-nil s.items) ∙ ap (λ xs. s.items ++ xs) (sym none))
  pop_row (r ∷ rs) (suc a) b count e s x (here, later) at low is within =
      ap (λ xs. r.items ++ xs) (pop_row rs a b (count - 512) e s x later (omega arith) low is (omega arith))
      ∙ sym (append_assoc r.items (joined_rows (set rs a s)) (x ∷ []))

  pub pop_row-are_rows : (rows : List (Vec T)) (a b count : ℕ) (e s : Vec T) (x : T) → AreRows rows count
      → 512 * a + b + 1 ≡ count → b < 512 → (get_or rows a e).items ≡ s.items ++ x ∷ [] → a < length rows
      → AreRows (set rows a s) (512 * a + b)
  pop_row-are_rows [] a b count e s x r at low is within = absurd (omega arith)
  pop_row-are_rows (r ∷ rs) zero b count e s x (here, later) at low is within =
      let less : length r.items ≡ length s.items + 1 = ap (λ xs. length xs) is ∙ length_push s.items x in
      let left : count - 512 ≡ 512 * 0 + b - 512 = omega arith in
      (omega arith, subst (λ n. AreRows rs n) left later)
  pop_row-are_rows (r ∷ rs) (suc a) b count e s x (here, later) at low is within =
      let left : 512 * a + b ≡ 512 * suc a + b - 512 = omega arith in (
        omega arith,
        subst (λ n. AreRows (set rs a s) n) left
            (pop_row-are_rows rs a b (count - 512) e s x later (omega arith) low is (omega arith)),
      )

  -- ---- by one index

  module _ (rows : List (Vec T)) (i count : ℕ) (self : List T) (r : AreRows rows count)
      (view : joined_rows rows ≡ self) (within : i < length self) where
    below : 512 * (i / 512) + i % 512 < count
    below =
        let all : length (joined_rows rows) ≡ count = length-rows rows count r in
        let seen : length (joined_rows rows) ≡ length self = ap (λ xs. length xs) view in
        omega arith

    again : 512 * (i / 512) + i % 512 ≡ i
    again = omega arith

    pub index_row : i / 512 < length rows
    index_row = row_within rows (i / 512) (i % 512) count r below (omega arith)

    module _ (row : Vec T) (is : row ≡ get_or rows (i / 512) row) where
      pub index_place : i % 512 < length row.items
      index_place =
          subst (λ v. i % 512 < length v.items) (sym is)
          (place_within rows (i / 512) (i % 512) count row r below (omega arith))

      pub index_value : (x : T) → x ≡ get_or row.items (i % 512) x → x ≡ get_or self i x
      index_value x at =
          at ∙ ap (λ v. get_or v.items (i % 512) x) is
          ∙ sym (get_row rows (i / 512) (i % 512) count row x r below (omega arith))
          ∙ ap (λ n. get_or (joined_rows rows) n x) again ∙ ap (λ xs. get_or xs i x) view

      pub index_set : (s : Vec T) (x : T) → s.items ≡ set row.items (i % 512) x
          → joined_rows (set rows (i / 512) s) ≡ set self i x
      index_set s x at =
          set_row rows (i / 512) (i % 512) count row s x r below (omega arith)
          (at ∙ ap (λ v. set v.items (i % 512) x) is)
          ∙ ap (λ n. set (joined_rows rows) n x) again ∙ ap (λ xs. set xs i x) view

      pub index_rows : (s : Vec T) → length s.items ≡ length row.items → AreRows (set rows (i / 512) s) count
      index_rows s same =
          set_row-are_rows rows (i / 512) count row s r (same ∙ ap (λ v. length v.items) is)

  -- there is a row for one more, unless all are full
  pub row_enough : (rows : List (Vec T)) (count : ℕ) → AreRows rows count
      → (count / 512 ≡ length rows → ⊥) → count / 512 < length rows
  row_enough rows count r other =
      let most : count ≤ 512 * length rows = rows_enough rows count r in
      omega arith

  -- a row with the same values
  pub same_rows : (rows : List (Vec T)) (a : ℕ) (e s : Vec T) → e ≡ get_or rows a e → s.items ≡ e.items
      → joined_rows (set rows a s) ≡ joined_rows rows
  same_rows [] a e s is same = refl
  same_rows (r ∷ rs) zero e s is same = ap (λ xs. xs ++ joined_rows rs) (same ∙ ap (λ v. v.items) is)
  same_rows (r ∷ rs) (suc a) e s is same = ap (λ xs. r.items ++ xs) (same_rows rs a e s is same)

  -- ---- the last value

  take-none : (n : ℕ) (xs : List T) → length xs ≡ 0 → take n xs ≡ xs
  take-none zero [] none = refl
  take-none (suc n) [] none = refl
  take-none n (x ∷ xs) none = absurd (omega arith)

  pub none_left : (xs : List T) → length xs ≡ 0 → xs ≡ take (length xs - 1) xs
  none_left xs none = sym (take-none (length xs - 1) xs none)

  -- a list that is not empty has a last value
  last_of : (xs : List T) → (length xs ≡ 0 → ⊥) → (x : T) × (xs ≡ take (length xs - 1) xs ++ x ∷ [])
  last_of [] some = absurd (some refl)
  last_of (x ∷ []) some = (
    x,
    let e : length (x ∷ []) - 1 ≡ 0 = omega arith in ap (λ n. take n (x ∷ []) ++ x ∷ [])
        (sym e),
  )
  last_of (x ∷ (y ∷ ys)) some =
      let rest = last_of (y ∷ ys) (λ e. omega (arith, e)) in (
        rest.0,
        let e : length (x ∷ (y ∷ ys)) - 1 ≡ suc (length (y ∷ ys) - 1) = omega arith in
            ap (λ zs. x ∷ zs) rest.1 ∙ ap (λ n. take n (x ∷ (y ∷ ys)) ++ rest.0 ∷ []) (sym e),
      )

  module _ (rows : List (Vec T)) (count : ℕ) (r : AreRows rows count) (some : count ≡ 0 → ⊥) where
    last_at : 512 * ((count - 1) / 512) + (count - 1) % 512 ≡ count - 1
    last_at = omega arith

    last_below : 512 * ((count - 1) / 512) + (count - 1) % 512 < count
    last_below = omega arith

    pub last_row : (count - 1) / 512 < length rows
    last_row = row_within rows ((count - 1) / 512) ((count - 1) % 512) count r last_below (omega arith)

    module _ (row : Vec T) (is : row ≡ get_or rows ((count - 1) / 512) row) (s : Vec T)
        (rest : s.items ≡ take (vec_len row - 1) row.items) where
      not_empty : length row.items ≡ 0 → ⊥
      not_empty e =
          let place : (count - 1) % 512 < length (get_or rows ((count - 1) / 512) row).items =
          place_within rows ((count - 1) / 512) ((count - 1) % 512) count row r last_below (omega arith) in
          let here : length row.items ≡ length (get_or rows ((count - 1) / 512) row).items = ap (λ v. length v.items)
          is in
          omega (arith, e)

      last_value : T
      last_value = (last_of row.items not_empty).0

      with_last : (get_or rows ((count - 1) / 512) row).items ≡ s.items ++ last_value ∷ []
      unfolding last_value
      with_last =
          let len : vec_len row - 1 ≡ length row.items - 1 = omega arith in
          ap (λ v. v.items) (sym is) ∙ (last_of row.items not_empty).1
          ∙ ap (λ xs. xs ++ last_value ∷ []) (ap (λ n. take n row.items) (sym len) ∙ sym rest)

      pub last_rows : AreRows (set rows ((count - 1) / 512) s) (count - 1)
      last_rows =
          subst (λ n. AreRows (set rows ((count - 1) / 512) s) n) last_at
          (pop_row-are_rows rows ((count - 1) / 512) ((count - 1) % 512) count row s last_value r (omega arith)
          (omega arith)
          with_last last_row)

      pub last_joined : (self : List T) → joined_rows rows ≡ self
          → joined_rows (set rows ((count - 1) / 512) s) ≡ take (length self - 1) self
      last_joined self view =
          let split = sym view ∙ pop_row rows ((count - 1) / 512) ((count - 1) % 512) count row s last_value r (omega
          arith)
          (omega arith) with_last last_row in
          all_but_last self (joined_rows (set rows ((count - 1) / 512) s)) last_value split
        where
          all_but_last : (xs ys : List T) (y : T) → xs ≡ ys ++ y ∷ [] → ys ≡ take (length xs - 1) xs
          all_but_last xs ys y e =
              let long : length xs ≡ length ys + 1 = ap (λ zs. length zs) e ∙ length_push ys y in
              let len : length xs - 1 ≡ length ys = omega arith in
              sym (ap (λ n. take n xs) len ∙ ap (take (length ys)) e ∙ take_at ys (y ∷ []) (length ys) refl)
