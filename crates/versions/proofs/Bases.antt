-- The base that records stand for.
use Rattle.std.proofs.Common.{◌≡◌, ℕ, Bool, true, false, cond, List, [], ◌∷◌, ◌++◌, drop, Option, None, Some, refl, sym}
use Rattle.std.proofs.Common.{ap, ◌∙◌, append-nil}
use Rattle.std.specs.FinMap.{empty, insert, get-insert, get-remove, get-empty, same_map}
use Rattle.std.specs.Ordering.{eq_by_cmp}
use Rattle.std.specs.Cmp.Lexicographic.{nat_list_cmp_total}
use Rattle.std.specs.Map.{keys_of}
use Rattle.std.specs.Map.Calls.{RetainsPairs}
use Rattle.std.specs.List.{IsDistinct}
use Rattle.std.specs.BTreeMap.{is_at}
use Rattle.std.specs.Cmp.{eq_by_cmp_equiv}
use Rattle.std.proofs.lemmas.Map.{lookup-none}
use Rattle.std.proofs.lemmas.Map.Entries.{none_past_head}
use Rattle.std.proofs.lemmas.Map.Keys.{IsDistinct-tail}
use Rattle.std.proofs.lemmas.Map.Lookups.{exact_bytes}
use Rattle.table.specs.Keys.{key_cmp, tree_key_cmp}
use Rattle.table.proofs.TreeKeyLaws.{tree_key_total, tree_key_tie, same_tie}
use Rattle.table.specs.Plain.{Items, item_at, changed}
use Rattle.table.specs.Items.{Item}
use Rattle.table.specs.declared.operations.Target.{Target}
use Rattle.table.specs.declared.operations.Change.{Change}
use Rattle.versions.specs.Entries.{set_key}
use Rattle.versions.specs.Stores.{is_key_of, sets, items_put}
use Rattle.versions.specs.Records.{Record}
use Rattle.versions.specs.Records.{record_at, item_in, numbers_in, with_item, base_of, put_of, puts_of, item_after}
use Rattle.versions.proofs.Logs.{item-changed}

item_of_choice : (b : Bool) (r : Record) (o : Option Record) → cond b r.item (item_in o) ≡ item_in (cond b (Some r) o)
item_of_choice true r o = refl
item_of_choice false r o = refl

item-with_item : (items : Items) (key : List ℕ) (item : Option Item) (q : List ℕ)
    → item_at (with_item items key item) q ≡ cond (eq_by_cmp key_cmp q key) item (item_at items q)
item-with_item items key None q = get-remove nat_list_cmp_total items key q
item-with_item items key (Some item) q = get-insert nat_list_cmp_total items key item q

-- a key's item in the base is its record's
pub item-base_of : (records : List (List ℕ × Record)) (q : List ℕ)
    → item_at (base_of records) q ≡ item_in (record_at records q)
item-base_of [] q = get-empty key_cmp q
item-base_of (e ∷ es) q =
    item-with_item (base_of es) e.0 e.1.item q
    ∙ ap (cond (eq_by_cmp key_cmp q e.0) e.1.item) (item-base_of es q)
    ∙ ap (λ b. cond b e.1.item (item_in (record_at es q))) (sym (same_tie q e.0))
    ∙ item_of_choice (is_at (tree_key_cmp q) e.0) e.1 (record_at es q)

-- records that give each key the same item stand for the same base
pub same_base : (records others : List (List ℕ × Record))
    → ((q : List ℕ) → item_in (record_at others q) ≡ item_in (record_at records q))
    → base_of others ≡ base_of records
same_base records others same =
    same_map nat_list_cmp_total exact_bytes _ _ (λ q. item-base_of others q ∙ same q ∙ sym (item-base_of records q))

-- records that differ by a change stand for a base that does
pub base-changed : (records others : List (List ℕ × Record)) (target : Target) (change : Change)
    → ((q : List ℕ) → item_in (record_at others q) ≡ item_after q target change (item_in (record_at records q)))
    → base_of others ≡ changed (base_of records) target change
base-changed records others target change after = same_map nat_list_cmp_total exact_bytes _ _ (λ q.
    item-base_of others q ∙ after q
    ∙ sym (item-changed (base_of records) target change q ∙ ap (item_after q target change) (item-base_of records q)))

-- ---- one record changes

same_by : {A : Type 0} (f : List ℕ → A) (k q : List ℕ) (b : Bool) → (b ≡ true → k ≡ q) → cond b (f k) (f q) ≡ f q
same_by f k q true h = ap f (h refl)
same_by f k q false h = refl

-- at the key that is noted the numbers gain this one, and at another they stay
pub noted_by : (f : List ℕ → List ℕ) (n : ℕ) (k q : List ℕ) (b : Bool)
    → (b ≡ true → k ≡ q)
    → cond b (f k ++ n ∷ []) (f q) ≡ f q ++ cond b (n ∷ []) []
noted_by f n k q true h = ap (λ x. f x ++ n ∷ []) (h refl)
noted_by f n k q false h = sym (append-nil (f q))

-- a number is added at a key
pub noted_at : (f : List ℕ → List ℕ) (n : ℕ) (k q : List ℕ)
    → cond (is_at (tree_key_cmp k) q) (f k ++ n ∷ []) (f q) ≡ f q ++ cond (is_at (tree_key_cmp k) q) (n ∷ []) []
noted_at f n k q = noted_by f n k q (is_at (tree_key_cmp k) q) (tree_key_tie k q)

dropped_by : (f : List ℕ → List ℕ) (k q : List ℕ) (b : Bool)
    → (b ≡ true → k ≡ q)
    → cond b (drop 1 (f k)) (f q) ≡ cond b (drop 1 (f q)) (f q)
dropped_by f k q true h = ap (λ x. drop 1 (f x)) (h refl)
dropped_by f k q false h = refl

-- the first number of a key is dropped
pub dropped_at : (f : List ℕ → List ℕ) (k q : List ℕ)
    → cond (is_at (tree_key_cmp k) q) (drop 1 (f k)) (f q) ≡ cond (is_at (key_cmp k) q) (drop 1 (f q)) (f q)
dropped_at f k q =
    dropped_by f k q (is_at (tree_key_cmp k) q) (tree_key_tie k q)
    ∙ ap (λ b. cond b (drop 1 (f q)) (f q)) (same_tie k q)

-- a key's item is set
pub set_at : (item other : Option Item) (k q : List ℕ)
    → cond (is_at (tree_key_cmp k) q) item other ≡ cond (is_at (key_cmp k) q) item other
set_at item other k q = ap (λ b. cond b item other) (same_tie k q)

numbers_of_choice : (b : Bool) (r : Record) (o : Option Record)
    → cond b r.numbers (numbers_in o) ≡ numbers_in (cond b (Some r) o)
numbers_of_choice true r o = refl
numbers_of_choice false r o = refl

-- a key's record is replaced
abbrev pub Replaced : List (List ℕ × Record) → List (List ℕ × Record) → List ℕ → Record → Type 0
Replaced es fs k w = (q : List ℕ) → record_at fs q ≡ cond (is_at (tree_key_cmp k) q) (Some w) (record_at es q)

-- a record that is replaced by one with its item leaves each key's item as it is
pub items_stay : (es fs : List (List ℕ × Record)) (k : List ℕ) (w : Record)
    → w.item ≡ item_in (record_at es k)
    → Replaced es fs k w
    → (q : List ℕ)
    → item_in (record_at fs q) ≡ item_in (record_at es q)
items_stay es fs k w is h q =
    ap item_in (h q) ∙ sym (item_of_choice (is_at (tree_key_cmp k) q) w (record_at es q))
    ∙ ap (λ i. cond (is_at (tree_key_cmp k) q) i (item_in (record_at es q))) is
    ∙ same_by (λ x. item_in (record_at es x)) k q (is_at (tree_key_cmp k) q) (tree_key_tie k q)

-- a record that is replaced by one with its numbers leaves each key's numbers as they are
pub numbers_stay : (es fs : List (List ℕ × Record)) (k : List ℕ) (w : Record)
    → w.numbers ≡ numbers_in (record_at es k)
    → Replaced es fs k w
    → (q : List ℕ)
    → numbers_in (record_at fs q) ≡ numbers_in (record_at es q)
numbers_stay es fs k w is h q =
    ap numbers_in (h q) ∙ sym (numbers_of_choice (is_at (tree_key_cmp k) q) w (record_at es q))
    ∙ ap (λ i. cond (is_at (tree_key_cmp k) q) i (numbers_in (record_at es q))) is
    ∙ same_by (λ x. numbers_in (record_at es x)) k q (is_at (tree_key_cmp k) q) (tree_key_tie k q)

-- ---- all items are taken away

module _ {F : Type 0} (T : F → List ℕ → Record → Bool → Record → F → Type 0)
    (called : (f : F) (k : List ℕ) (v : Record) (b : Bool) (w : Record) (g : F)
    → T f k v b w g
    → (b ≡ true → w.item ≡ None) × (b ≡ true → w.numbers ≡ v.numbers) × (b ≡ false → v.numbers ≡ [])) where
  no_item : (b : Bool) (w : Record) (o : Option Record)
      → w.item ≡ None
      → item_in o ≡ None
      → item_in (cond b (Some w) o) ≡ None
  no_item true w o is h = is
  no_item false w o is h = h

  same_numbers : (b : Bool) (w v : Record) (o p : Option Record)
      → w.numbers ≡ v.numbers
      → numbers_in o ≡ numbers_in p
      → numbers_in (cond b (Some w) o) ≡ numbers_in (cond b (Some v) p)
  same_numbers true w v o p is h = is
  same_numbers false w v o p is h = h

  no_numbers : (b : Bool) (v : Record) (o p : Option Record)
      → v.numbers ≡ []
      → (b ≡ true → p ≡ None)
      → numbers_in o ≡ numbers_in p
      → numbers_in o ≡ numbers_in (cond b (Some v) p)
  no_numbers true v o p is none h = h ∙ ap numbers_in (none refl) ∙ sym is
  no_numbers false v o p is none h = h

  -- what `retain` leaves, if the closure takes the item out and keeps what has numbers
  pub cleared : (es kept : List (List ℕ × Record)) (f : F)
      → RetainsPairs T f es kept
      → IsDistinct (eq_by_cmp tree_key_cmp) (keys_of es)
      → (q : List ℕ)
      → (item_in (record_at kept q) ≡ None) × (numbers_in (record_at kept q) ≡ numbers_in (record_at es q))
  cleared [] kept f r d q = rw r (refl, refl)
  cleared (e ∷ es) kept f r d q =
      let p = called f e.0 e.1 r.0 r.1 r.2 r.4 in
      let h = cleared es r.3 r.2 r.5 (IsDistinct-tail (eq_by_cmp tree_key_cmp) e.0 (keys_of es) d) q in
      rw r.6 (cleared_step r.0 r.1 e es r.3 q p.0 p.1 p.2
      (λ t. lookup-none (is_at (tree_key_cmp q)) es (none_past_head (eq_by_cmp_equiv tree_key_total) q e es d t)) h)
    where
      cleared_step : (b : Bool) (w : Record) (e : List ℕ × Record) (es rest : List (List ℕ × Record)) (q : List ℕ)
          → (b ≡ true → w.item ≡ None)
          → (b ≡ true → w.numbers ≡ e.1.numbers)
          → (b ≡ false → e.1.numbers ≡ [])
          → (is_at (tree_key_cmp q) e.0 ≡ true → record_at es q ≡ None)
          → (item_in (record_at rest q) ≡ None) × (numbers_in (record_at rest q) ≡ numbers_in (record_at es q))
          → (item_in (record_at (cond b ((e.0, w) ∷ rest) rest) q) ≡ None)
          × (numbers_in (record_at (cond b ((e.0, w) ∷ rest) rest) q) ≡ numbers_in (record_at (e ∷ es) q))
      cleared_step true w e es rest q item same gone none h = (
        no_item (is_at (tree_key_cmp q) e.0) w (record_at rest q) (item refl) h.0,
        same_numbers (is_at (tree_key_cmp q) e.0) w e.1 (record_at rest q) (record_at es q) (same refl) h.1,
      )
      cleared_step false w e es rest q item same gone none h =
          (h.0, no_numbers (is_at (tree_key_cmp q) e.0) e.1 (record_at rest q) (record_at es q) (gone refl) none h.1)

-- a key is at itself
pub itself : (k : List ℕ) → is_at (key_cmp k) k ≡ true
itself k = (eq_by_cmp_equiv nat_list_cmp_total).refl k

-- a number is added at the key that an entry sets
pub noted_key : (f : List ℕ → List ℕ) (n : ℕ) (k q : List ℕ) (target : Target) (change : Change)
    → Some k ≡ set_key target change
    → cond (is_at (tree_key_cmp k) q) (f k ++ n ∷ []) (f q) ≡ f q ++ cond (sets q target change) (n ∷ []) []
noted_key f n k q target change is =
    noted_at f n k q ∙ ap (λ b. f q ++ cond b (n ∷ []) []) (same_tie k q)
    ∙ ap (λ o. f q ++ cond (is_key_of o q) (n ∷ []) []) is

-- ---- the items of all records, put one after another

-- the first, or else the second
abbrev pub first_of : Option Item → Option Item → Option Item
first_of None o = o
first_of (Some i) o = Some i

-- these items with one put at a key, if there is one to put
abbrev pub with_put : Items → List ℕ → Option Item → Items
with_put items key None = items
with_put items key (Some item) = insert items key item

put_first : (items : Items) (key : List ℕ) (item : Option Item) (es : List (List ℕ × Item))
    → items_put items (put_of key item ++ es) ≡ items_put (with_put items key item) es
put_first items key None es = refl
put_first items key (Some i) es = refl

first_none : (o : Option Item) → first_of o None ≡ o
first_none None = refl
first_none (Some i) = refl

item-with_put : (items : Items) (key : List ℕ) (item : Option Item) (q : List ℕ)
    → item_at (with_put items key item) q ≡ cond (eq_by_cmp key_cmp q key) (first_of item (item_at items q))
    (item_at items q)
item-with_put items key None q = cond_same (eq_by_cmp key_cmp q key) (item_at items q)
  where
    cond_same : (b : Bool) (o : Option Item) → o ≡ cond b o o
    cond_same true o = refl
    cond_same false o = refl
item-with_put items key (Some i) q = get-insert nat_list_cmp_total items key i q

put_choice : (b : Bool) (r : Record) (o : Option Record) (x : Option Item)
    → (b ≡ true → o ≡ None)
    → first_of (item_in o) (cond b (first_of r.item x) x) ≡ first_of (item_in (cond b (Some r) o)) x
put_choice true r o x none = ap (λ p. first_of (item_in p) (first_of r.item x)) (none refl)
put_choice false r o x none = refl

item-puts : (items : Items) (es : List (List ℕ × Record)) (q : List ℕ)
    → IsDistinct (eq_by_cmp tree_key_cmp) (keys_of es)
    → item_at (items_put items (puts_of es)) q ≡ first_of (item_in (record_at es q)) (item_at items q)
item-puts items [] q d = refl
item-puts items (e ∷ es) q d =
    ap (λ m. item_at m q) (put_first items e.0 e.1.item (puts_of es))
    ∙ item-puts (with_put items e.0 e.1.item) es q (IsDistinct-tail (eq_by_cmp tree_key_cmp) e.0 (keys_of es) d)
    ∙ ap (first_of (item_in (record_at es q))) (item-with_put items e.0 e.1.item q)
    ∙ ap (λ b. first_of (item_in (record_at es q)) (cond b (first_of e.1.item (item_at items q)) (item_at items q)))
    (sym (same_tie q e.0))
    ∙ put_choice (is_at (tree_key_cmp q) e.0) e.1 (record_at es q) (item_at items q)
    (λ t. lookup-none (is_at (tree_key_cmp q)) es (none_past_head (eq_by_cmp_equiv tree_key_total) q e es d t))

-- they make the base
pub base-puts : (es : List (List ℕ × Record))
    → IsDistinct (eq_by_cmp tree_key_cmp) (keys_of es)
    → items_put empty (puts_of es) ≡ base_of es
base-puts es d = same_map nat_list_cmp_total exact_bytes _ _ (λ q.
    item-puts empty es q d ∙ ap (first_of (item_in (record_at es q))) (get-empty key_cmp q)
    ∙ first_none (item_in (record_at es q)) ∙ sym (item-base_of es q))
