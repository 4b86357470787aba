-- What a change of one key's version does to the weight of versions.
use Rattle.std.proofs.Common.{◌≡◌, ℕ, ◌+◌, ◌≤◌, Bool, true, false, cond, ◌&&◌, T, List, [], ◌∷◌, length, refl, ap, sym}
use Rattle.std.proofs.Common.{Option, None, Some, is_some, ◌∙◌, subst, arith}
use Rattle.std.specs.Ordering.{is_lt, is_eq, eq_by_cmp}
use Rattle.std.specs.declared.cmp.Ordering.{Ordering}
use Rattle.std.specs.declared.cmp.Ordering.TheVariants.{Less, Equal, Greater}
use Rattle.std.specs.Cmp.{eq_by_cmp_equiv}
use Rattle.std.specs.Cmp.Lexicographic.{nat_list_cmp_total}
use Rattle.std.specs.List.{AllByRecursion}
use Rattle.std.specs.List.Sorted.{IsStrictlySortedBy}
use Rattle.std.specs.Map.{keys_of}
use Rattle.std.specs.BTreeMap.{is_at}
use Rattle.std.specs.FinMap as maps
use Rattle.std.specs.FinMap.{find, put, is_sorted, entries_sorted, entries-insert, get-entries, len-entries, len-empty}
use Rattle.std.specs.FinMap.{get-insert, get-remove, same_map, len-insert}
use Rattle.std.specs.FinMap.Entries.{by_order, below_all}
use Rattle.std.proofs.lemmas.Map.Keys.{sorted_head, sorted_tail}
use Rattle.std.proofs.lemmas.Map.Lookups.{exact_bytes}
use Rattle.std.proofs.lemmas.Map.Views.{tells_apart}
use Rattle.table.specs.Keys.{key_cmp, tree_key_cmp}
use Rattle.table.proofs.TreeKeyLaws.{placed_at, get_tree_key, tree_key_put, tree_key_removed}
use Rattle.table.specs.Items.{Version}
use Rattle.node.specs.Faces.{Versions}
use Rattle.faces.specs.Tombstones.{map_of}
use Rattle.faces.specs.Weights.{bytes_with, bytes_in}

-- what a key's version takes, if there is one
abbrev pub bytes_at : List ℕ → Option Version → ℕ
bytes_at k None = 0
bytes_at k (Some v) = bytes_with k v

-- what all versions take
abbrev pub bytes_of : Versions → ℕ
bytes_of m = bytes_in (maps.entries m)

-- ---- lists of entries in order

first : (a b : Bool) → T (a && b) → T a
first true b p = tt
first false b p = absurd p

second : (a b : Bool) → T (a && b) → T b
second true b p = p
second false b p = absurd p

less : (o : Ordering) → T (is_lt o) → o ≡ Less
less Less p = refl
less Equal p = absurd p
less Greater p = absurd p

-- a key below another, which is below all these, is none of them
not_there : (k q : List ℕ) (es : List (List ℕ × Version))
    → key_cmp k q ≡ Less
    → T (below_all key_cmp q es)
    → find key_cmp k es ≡ None
not_there k q [] below h = refl
not_there k q (e ∷ es) below h =
    ap (λ r. cond (is_eq r) (Some e.1) (find key_cmp k es))
    (nat_list_cmp_total.trans k q e.0 below (less _ (first _ _ h)))
    ∙ not_there k q es below (second _ _ h)

put_bytes : (k : List ℕ) (v : Version) (es : List (List ℕ × Version))
    → T (is_sorted key_cmp es)
    → bytes_in (put key_cmp k v es) + bytes_at k (find key_cmp k es) ≡ bytes_in es + bytes_with k v
put_bytes k v [] h = omega arith
put_bytes k v (e ∷ es) h =
    elim (key_cmp k e.0) as (λ r. key_cmp k e.0 ≡ r
    → bytes_in (by_order r ((k, v) ∷ e ∷ es) ((e.0, v) ∷ es) (e ∷ put key_cmp k v es))
    + bytes_at k (cond (is_eq r) (Some e.1) (find key_cmp k es)) ≡ bytes_in (e ∷ es) + bytes_with k v) [
      | Less ↦ λ p. rw (not_there k e.0 es p (first _ _ h)) (omega arith)
      | Equal ↦ λ p. omega arith
      | Greater ↦ λ p. omega (arith, put_bytes k v es (second _ _ h))
    ] refl

-- ---- maps

-- a key gets a version
pub bytes_set : (m : Versions) (k : List ℕ) (v : Version)
    → bytes_of (maps.insert m k v) + bytes_at k (maps.get m k) ≡ bytes_of m + bytes_with k v
bytes_set m k v = rw (entries-insert nat_list_cmp_total m k v, get-entries m k)
    (put_bytes k v (maps.entries m) (entries_sorted m))

no_length : {A : Type 0} (es : List A) → length es ≡ 0 → es ≡ []
no_length [] e = refl
no_length (x ∷ es) e = absurd (omega (arith, e))

-- nothing takes nothing
pub bytes_none : bytes_of maps.empty ≡ 0
bytes_none = ap bytes_in (no_length (maps.entries maps.empty)
    (sym (len-entries maps.empty) ∙ len-empty key_cmp Version))

same_key : (q k : List ℕ) → eq_by_cmp key_cmp q k ≡ true → q ≡ k
same_key q k e = tells_apart exact_bytes q k e

put_back : (t : Bool) (o : Option Version) (v : Version)
    → (t ≡ true → o ≡ Some v)
    → cond t (Some v) (cond t None o) ≡ o
put_back true o v same = sym (same refl)
put_back false o v same = refl

taken_none : (t : Bool) (o : Option Version) → (t ≡ true → o ≡ None) → cond t None o ≡ o
taken_none true o same = sym (same refl)
taken_none false o same = refl

-- a version that is taken away and set again leaves the map as it was
set_again : (m : Versions) (k : List ℕ) (v : Version)
    → maps.get m k ≡ Some v
    → maps.insert (maps.remove m k) k v ≡ m
set_again m k v is = same_map nat_list_cmp_total exact_bytes _ _ (λ q.
    get-insert nat_list_cmp_total (maps.remove m k) k v q
    ∙ ap (cond (eq_by_cmp key_cmp q k) (Some v)) (get-remove nat_list_cmp_total m k q)
    ∙ put_back (eq_by_cmp key_cmp q k) (maps.get m q) v (λ t. ap (maps.get m) (same_key q k t) ∙ is))

-- a version that isn't there can't be taken away
none_taken : (m : Versions) (k : List ℕ) → maps.get m k ≡ None → maps.remove m k ≡ m
none_taken m k is = same_map nat_list_cmp_total exact_bytes _ _ (λ q.
    get-remove nat_list_cmp_total m k q
    ∙ taken_none (eq_by_cmp key_cmp q k) (maps.get m q) (λ t. ap (maps.get m) (same_key q k t) ∙ is))

itself : (k : List ℕ) → eq_by_cmp key_cmp k k ≡ true
itself k = (eq_by_cmp_equiv nat_list_cmp_total).refl k

gone : (m : Versions) (k : List ℕ) → maps.get (maps.remove m k) k ≡ None
gone m k = get-remove nat_list_cmp_total m k k ∙ ap (λ t. cond t None (maps.get m k)) (itself k)

removed_by : (m : Versions) (k : List ℕ) (o : Option Version)
    → maps.get m k ≡ o
    → bytes_of (maps.remove m k) + bytes_at k o ≡ bytes_of m
removed_by m k None is = rw (none_taken m k is) (omega arith)
removed_by m k (Some v) is =
    let set = bytes_set (maps.remove m k) k v in
    let same : bytes_of (maps.insert (maps.remove m k) k v) ≡ bytes_of m = ap bytes_of (set_again m k v is) in
    let none : bytes_at k (maps.get (maps.remove m k) k) ≡ 0 = ap (bytes_at k) (gone m k) in
    omega (arith, set, same, none)

-- a key loses its version
pub bytes_removed : (m : Versions) (k : List ℕ) → bytes_of (maps.remove m k) + bytes_at k (maps.get m k) ≡ bytes_of m
bytes_removed m k = removed_by m k (maps.get m k) refl

-- ---- trees

others : {X : Type 0} (k : List ℕ) (es : List (List ℕ × X))
    → AllByRecursion (λ q. tree_key_cmp k q ≡ Less) (keys_of es)
    → placed_at es k ≡ None
others k [] h = refl
others k (e ∷ es) h = ap (λ r. cond (is_eq r) (Some e.1) (placed_at es k)) h.0 ∙ others k es h.1

-- a tree has as many versions as the map of its entries
pub tree_len : (es : List (List ℕ × Version))
    → IsStrictlySortedBy tree_key_cmp (keys_of es)
    → maps.len (maps.from_entries {R = key_cmp} es) ≡ length es
tree_len [] h = len-empty key_cmp Version
tree_len (e ∷ es) h =
    let none = get_tree_key es e.0 ∙ others e.0 es (sorted_head tree_key_cmp e.0 (keys_of es) h) in
    let rest = tree_len es (sorted_tail tree_key_cmp e.0 (keys_of es) h) in
    len-insert nat_list_cmp_total (maps.from_entries es) e.0 e.1
    ∙ ap (λ (o : Option Version). cond (is_some o) (maps.len (maps.from_entries {R = key_cmp} es))
    (maps.len (maps.from_entries {R = key_cmp} es) + 1)) none
    ∙ (let more : maps.len (maps.from_entries {R = key_cmp} es) + 1 ≡ length (e ∷ es) = omega (arith, rest) in more)

-- what a tree has at a key's place
there : (es : List (List ℕ × Version)) (p k : List ℕ) (o : Option Version)
    → p ≡ k
    → o ≡ placed_at es p
    → maps.get (map_of es) k ≡ o
there es p k o same at = get_tree_key es k ∙ ap (placed_at es) (sym same) ∙ sym at

-- trees that differ at a key's place by its absence, or by a new version
pub map_removed : (es fs : List (List ℕ × Version)) (p k : List ℕ)
    → p ≡ k
    → ((q : List ℕ) → placed_at fs q ≡ cond (is_at (tree_key_cmp p) q) None (placed_at es q))
    → map_of fs ≡ maps.remove (map_of es) k
map_removed es fs p k same h = tree_key_removed es fs p h ∙ ap (maps.remove (map_of es)) same

pub map_set : (es fs : List (List ℕ × Version)) (p k : List ℕ) (w v : Version)
    → p ≡ k
    → w ≡ v
    → ((q : List ℕ) → placed_at fs q ≡ cond (is_at (tree_key_cmp p) q) (Some w) (placed_at es q))
    → map_of fs ≡ maps.insert (map_of es) k v
map_set es fs p k w v same version h =
    tree_key_put es fs p w h ∙ (λ i. maps.insert (map_of es) (same i) (version i))

-- a version that was there is counted
pub counted : (es : List (List ℕ × Version)) (p k : List ℕ) (v : Version) (bytes : ℕ)
    → p ≡ k
    → Some v ≡ placed_at es p
    → bytes_of (map_of es) ≡ bytes
    → bytes_with k v ≤ bytes
counted es p k v bytes same at is =
    let whole = bytes_removed (map_of es) k in
    let here : bytes_at k (maps.get (map_of es) k) ≡ bytes_with k v =
    ap (bytes_at k) (there es p k (Some v) same at) in
    omega (arith, whole, here, is)

-- what is left once a version was taken away
pub count_removed : (es fs : List (List ℕ × Version)) (p k : List ℕ) (o : Option Version) (bytes left : ℕ)
    → p ≡ k
    → ((q : List ℕ) → placed_at fs q ≡ cond (is_at (tree_key_cmp p) q) None (placed_at es q))
    → o ≡ placed_at es p
    → bytes_of (map_of es) ≡ bytes
    → left + bytes_at k o ≡ bytes
    → bytes_of (map_of fs) ≡ left
count_removed es fs p k o bytes left same h at is sum =
    let whole = bytes_removed (map_of es) k in
    let here : bytes_at k (maps.get (map_of es) k) ≡ bytes_at k o = ap (bytes_at k) (there es p k o same at) in
    let now : bytes_of (map_of fs) ≡ bytes_of (maps.remove (map_of es) k) =
    ap bytes_of (map_removed es fs p k same h) in
    omega (arith, whole, here, now, is, sum)

-- what there is once a version was set, in the place of another or of none
pub count_set : (es fs : List (List ℕ × Version)) (p k : List ℕ) (w v : Version) (o : Option Version)
    (bytes sum now : ℕ)
    → p ≡ k
    → w ≡ v
    → ((q : List ℕ) → placed_at fs q ≡ cond (is_at (tree_key_cmp p) q) (Some w) (placed_at es q))
    → o ≡ placed_at es p
    → bytes_of (map_of es) ≡ bytes
    → sum ≡ bytes + bytes_with k v
    → now + bytes_at k o ≡ sum
    → bytes_of (map_of fs) ≡ now
count_set es fs p k w v o bytes sum now same version h at is more less =
    let whole = bytes_set (map_of es) k v in
    let here : bytes_at k (maps.get (map_of es) k) ≡ bytes_at k o = ap (bytes_at k) (there es p k o same at) in
    let after : bytes_of (map_of fs) ≡ bytes_of (maps.insert (map_of es) k v) =
    ap bytes_of (map_set es fs p k w v same version h) in
    omega (arith, whole, here, after, is, more, less)

-- a version that is set again is counted once more
pub counted_before : (es : List (List ℕ × Version)) (p k : List ℕ) (v : Version) (o : Option Version) (bytes sum n : ℕ)
    → p ≡ k
    → o ≡ placed_at es p
    → bytes_of (map_of es) ≡ bytes
    → sum ≡ bytes + n
    → o ≡ Some v
    → bytes_with k v ≤ sum
counted_before es p k v o bytes sum n same at is more some =
    let low = counted es p k v bytes same (sym some ∙ at) is in omega (arith, low, more)

-- the count without another version, or without none
pub less_some : (k : List ℕ) (o : Option Version) (v : Version) (now sum : ℕ)
    → o ≡ Some v
    → now + bytes_with k v ≡ sum
    → now + bytes_at k o ≡ sum
less_some k o v now sum is h = subst (λ (p : Option Version). now + bytes_at k p ≡ sum) (sym is) h

pub less_none : (k : List ℕ) (o : Option Version) (now sum : ℕ) → o ≡ None → now ≡ sum → now + bytes_at k o ≡ sum
less_none k o now sum is h =
    subst (λ (p : Option Version). now + bytes_at k p ≡ sum) (sym is) (omega (arith, h))
