-- The table of a snapshot.
use Rattle.std.proofs.Common.{◌≡◌, ◌⊎◌, ℕ, ◌<◌, ◌≤◌, ◌^◌, List, [], ◌∷◌, map, refl, ap}
use Rattle.std.proofs.Common.{sym, subst, ◌∙◌, arith, inl, inr}
use Rattle.std.proofs.Common.{Bool, true, false, cond, Option, Some, None}
use Rattle.std.specs.FinMap as maps
use Rattle.std.specs.FinMap.{get, insert, empty, get-empty, get-insert, same_map}
use Rattle.std.specs.Ordering.{eq_by_cmp}
use Rattle.std.specs.Cmp.{eq_by_cmp_equiv}
use Rattle.std.specs.Cmp.Lexicographic.{nat_list_cmp_total}
use Rattle.std.specs.List.{AllByRecursion}
use Rattle.std.proofs.lemmas.Map.Lookups.{exact_bytes}
use Rattle.std.proofs.lemmas.Map.Views.{tells_apart}
use Rattle.table.specs.Keys.{key_cmp}
use Rattle.table.specs.Items.{Item}
use Rattle.table.specs.Plain.{Items, PlainTable, item_at}
use Rattle.versions.specs.Stores.{items_after}
use Rattle.snapshots.specs.Rows.{Row, IsRow, entry_of}
use Rattle.snapshots.specs.Snapshots.{AreRising, IsSnapshot, Snapshot, last_of}
use Rattle.snapshots.specs.Tables.{AreRows, IsAmong, IsReachable, table_of}

-- the empty table has nothing
nothing_there : (key : List ℕ) (item : Item) → item_at maps.empty key ≡ Some item → ⊥
nothing_there key item e = clash item (sym (get-empty key_cmp key) ∙ e)
  where
    clash : (i : Item) → ◌≡◌ {A = Option Item} None (Some i) → ⊥
    clash i e = cc

-- the items after these rows
abbrev left_by : Items → List Row → Items
left_by items rows = items_after items (map entry_of rows)

-- keys that compare alike are one
same_key : (k q : List ℕ) → eq_by_cmp key_cmp k q ≡ true → k ≡ q
same_key k q e = tells_apart exact_bytes k q e

-- what is there after rows was there before, or is one of them
found : (rows : List Row) (items : Items) (key : List ℕ) (item : Item)
    → item_at (left_by items rows) key ≡ Some item
    → IsAmong (key, item) rows ⊎ (item_at items key ≡ Some item)
found [] items key item e = inr e
found (r ∷ rows) items key item e =
    by_later (found rows (insert items r.0 r.1) key item e)
  where
    some_is : (i j : Item) → ◌≡◌ {A = Option Item} (Some i) (Some j) → j ≡ i
    some_is i j e = cc

    both : (k q : List ℕ) (i j : Item) → k ≡ q → i ≡ j → ◌≡◌ {A = Row} (k, i) (q, j)
    both k q i j e f = cc

    by_key : (b : Bool)
        → eq_by_cmp key_cmp key r.0 ≡ b
        → cond b (Some r.1) (item_at items key) ≡ Some item
        → IsAmong (key, item) (r ∷ rows) ⊎ (item_at items key ≡ Some item)
    by_key true same e = inl (inl (both key r.0 item r.1 (same_key key r.0 same) (some_is r.1 item e)))
    by_key false other e = inr e

    by_later : IsAmong (key, item) rows ⊎ (item_at (insert items r.0 r.1) key ≡ Some item)
        → IsAmong (key, item) (r ∷ rows) ⊎ (item_at items key ≡ Some item)
    by_later (inl h) = inl (inr h)
    by_later (inr h) =
        by_key (eq_by_cmp key_cmp key r.0) refl (sym (get-insert nat_list_cmp_total items r.0 r.1 key) ∙ h)

-- something stays at a key that had something
stays : (rows : List Row) (items : Items) (key : List ℕ)
    → (item : Item) × (item_at items key ≡ Some item)
    → (item : Item) × (item_at (left_by items rows) key ≡ Some item)
stays [] items key h = h
stays (r ∷ rows) items key h = stays rows (insert items r.0 r.1) key (by_key (eq_by_cmp key_cmp key r.0) refl)
  where
    by_key : (b : Bool)
        → eq_by_cmp key_cmp key r.0 ≡ b
        → (item : Item) × (item_at (insert items r.0 r.1) key ≡ Some item)
    by_key true same = (
      r.1,
      get-insert nat_list_cmp_total items r.0 r.1 key ∙ ap (λ (b : Bool). cond b (Some r.1) (item_at items key)) same,
    )
    by_key false other = (
      h.0,
      get-insert nat_list_cmp_total items r.0 r.1 key
          ∙ ap (λ (b : Bool). cond b (Some r.1) (item_at items key)) other
          ∙ h.1,
    )

-- something is there at a row's key
put_there : (rows : List Row) (items : Items) (row : Row)
    → IsAmong row rows
    → (item : Item) × (item_at (left_by items rows) row.0 ≡ Some item)
put_there [] items row h = absurd h
put_there (r ∷ rows) items row (inl e) =
    stays rows (insert items r.0 r.1) row.0 (
      r.1,
      get-insert nat_list_cmp_total items r.0 r.1 row.0
          ∙ ap (λ (b : Bool). cond b (Some r.1) (item_at items row.0))
          (ap (λ (x : Row). eq_by_cmp key_cmp x.0 r.0) e ∙ (eq_by_cmp_equiv nat_list_cmp_total).refl r.0),
    )
put_there (r ∷ rows) items row (inr h) = put_there rows (insert items r.0 r.1) row h

-- a row among these is one, above the last number before them, and not above theirs
is_row : (rows : List Row) (row : Row) → AllByRecursion IsRow rows → IsAmong row rows → IsRow row
is_row [] row each h = absurd h
is_row (r ∷ rows) row each (inl e) = subst IsRow (sym e) each.0
is_row (r ∷ rows) row each (inr h) = is_row rows row each.1 h

last_least : (last : ℕ) (rows : List Row) → AreRising last rows → last ≤ last_of last rows
last_least last [] rising = omega arith
last_least last (r ∷ rows) rising = omega (arith, rising.0, last_least r.1.unique rows rising.1)

is_above : (last : ℕ) (rows : List Row) (row : Row) → AreRising last rows → IsAmong row rows → last < row.1.unique
is_above last [] row rising h = absurd h
is_above last (r ∷ rows) row rising (inl e) = subst (λ (x : Row). last < x.1.unique) (sym e) rising.0
is_above last (r ∷ rows) row rising (inr h) = omega (arith, rising.0, is_above r.1.unique rows row rising.1 h)

is_within : (last : ℕ) (rows : List Row) (row : Row)
    → AreRising last rows
    → IsAmong row rows
    → row.1.unique ≤ last_of last rows
is_within last [] row rising h = absurd h
is_within last (r ∷ rows) row rising (inl e) =
    subst (λ (x : Row). x.1.unique ≤ last_of r.1.unique rows) (sym e) (last_least r.1.unique rows rising.1)
is_within last (r ∷ rows) row rising (inr h) = is_within r.1.unique rows row rising.1 h

apart : (x y r : ℕ) → x ≡ y → x ≡ r → r < y → ⊥
apart x y r e f lt = omega arith

-- rows of one number are one
one_number : (last : ℕ) (rows : List Row) (row other : Row)
    → AreRising last rows
    → IsAmong row rows
    → IsAmong other rows
    → row.1.unique ≡ other.1.unique
    → row ≡ other
one_number last [] row other rising h k e = absurd h
one_number last (r ∷ rows) row other rising (inl h) (inl k) e = h ∙ sym k
one_number last (r ∷ rows) row other rising (inl h) (inr k) e =
    absurd (apart row.1.unique other.1.unique r.1.unique e (ap (λ (x : Row). x.1.unique) h)
    (is_above r.1.unique rows other rising.1 k))
one_number last (r ∷ rows) row other rising (inr h) (inl k) e =
    absurd (apart other.1.unique row.1.unique r.1.unique (sym e) (ap (λ (x : Row). x.1.unique) k)
    (is_above r.1.unique rows row rising.1 h))
one_number last (r ∷ rows) row other rising (inr h) (inr k) e = one_number r.1.unique rows row other rising.1 h k e

module _ (s : Snapshot) (is : IsSnapshot s) where
  -- what the table has is one of the rows
  among : (key : List ℕ) (item : Item) → item_at (table_of s).items key ≡ Some item → IsAmong (key, item) s.rows
  among key item e = by_found (found s.rows maps.empty key item e)
    where
      by_found : IsAmong (key, item) s.rows ⊎ (item_at maps.empty key ≡ Some item) → IsAmong (key, item) s.rows
      by_found (inl h) = h
      by_found (inr h) = absurd (nothing_there key item h)

-- the table of a snapshot is one that updates leave
pub reachable : (s : Snapshot) → IsSnapshot s → IsReachable (table_of s)
reachable s is = record {
  row = λ key item e. is_row s.rows (key, item) is.rows (among s is key item e);
  within = λ key item e.
      let le = is_within 0 s.rows (key, item) is.rising (among s is key item e) in omega (arith, le, is.within);
  distinct = λ key other item another e f same.
      ap (λ (x : Row). x.0)
      (one_number 0 s.rows (key, item) (other, another) is.rising (among s is key item e) (among s is other another f)
      same);
  fits = is.fits;
}

-- a table whose rows are the snapshot's is its table
pub again : (s : Snapshot) (t : PlainTable) → AreRows s.rows t → s.count ≡ t.count → table_of s ≡ t
again s t are e = both (table_of s).items t.items s.count t.count
    (same_map nat_list_cmp_total exact_bytes (table_of s).items t.items at_key) e
  where
    both : (xs ys : Items) (m n : ℕ) → xs ≡ ys → m ≡ n
        → ◌≡◌ {A = PlainTable} (record { items = xs; count = m }) (record { items = ys; count = n })
    both xs ys m n e f = cc

    -- what the rows leave at a key is what the table has there
    some_there : (key : List ℕ) (item : Item)
        → IsAmong (key, item) s.rows ⊎ (item_at maps.empty key ≡ Some item)
        → item_at t.items key ≡ Some item
    some_there key item (inl h) = are.only key item h
    some_there key item (inr h) = absurd (nothing_there key item h)

    by_left : (key : List ℕ) (here there : Option Item)
        → item_at (table_of s).items key ≡ here
        → item_at t.items key ≡ there
        → here ≡ there
    by_left key (Some item) there e f =
        sym (some_there key item (found s.rows maps.empty key item e)) ∙ f
    by_left key None None e f = refl
    by_left key None (Some item) e f =
        let h = put_there s.rows maps.empty (key, item) (are.all key item f) in absurd (clash h.0 (sym e ∙ h.1))
      where
        clash : (i : Item) → ◌≡◌ {A = Option Item} None (Some i) → ⊥
        clash i e = cc

    at_key : (key : List ℕ) → item_at (table_of s).items key ≡ item_at t.items key
    at_key key = by_left key (item_at (table_of s).items key) (item_at t.items key) refl refl
