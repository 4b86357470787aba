-- The order of tree keys tells keys apart as the order of their bytes does.
use Rattle.std.proofs.Common.{◌≡◌, ℕ, Bool, true, false, cond, List, [], ◌∷◌, Option, None, Some, drop, refl, ap, sym}
use Rattle.std.proofs.Common.{◌∙◌}
use Rattle.std.specs.Cmp.{IsTotalOrder, eq_by_cmp_equiv, on_total}
use Rattle.std.specs.Cmp.Lexicographic.{nat_list_cmp_total}
use Rattle.std.specs.Map.{lookup}
use Rattle.std.specs.BTreeMap.{is_at}
use Rattle.std.specs.FinMap.{get, insert, remove, from_entries}
use Rattle.std.proofs.lemmas.Map.Lookups.{exact_bytes}
use Rattle.std.proofs.lemmas.Map.Views.{tells_apart}
use Rattle.table.specs.Keys.{key_cmp, tree_key_of, tree_key_cmp}
use Rattle.table.proofs.Maps.{get_entry, one_put, one_removed}

-- tree keys are in order
pub tree_key_total : IsTotalOrder tree_key_cmp
tree_key_total = on_total tree_key_of nat_list_cmp_total

-- keys with one tree key are one key
pub tree_key_tie : (k q : List ℕ) → is_at (tree_key_cmp k) q ≡ true → k ≡ q
tree_key_tie k q e = ap (drop 1) (tells_apart exact_bytes (tree_key_of k) (tree_key_of q) e)

-- a key's tree key is its own
pub tree_key_itself : (k : List ℕ) → is_at (tree_key_cmp k) k ≡ true
tree_key_itself k = (eq_by_cmp_equiv tree_key_total).refl k

tied_by : (k q : List ℕ) (a b : Bool) → is_at (tree_key_cmp k) q ≡ a → is_at (key_cmp k) q ≡ b → a ≡ b
tied_by k q true true h g = refl
tied_by k q false false h g = refl
tied_by k q true false h g =
    let same : k ≡ q = tree_key_tie k q h in
    sym ((eq_by_cmp_equiv nat_list_cmp_total).refl k) ∙ ap (λ x. is_at (key_cmp k) x) same ∙ g
tied_by k q false true h g =
    let same : k ≡ q = tells_apart exact_bytes k q g in
    sym h ∙ ap (λ x. is_at (tree_key_cmp k) x) (sym same) ∙ tree_key_itself k

-- a key has another's tree key exactly if it is that key
pub same_tie : (k q : List ℕ) → is_at (tree_key_cmp k) q ≡ is_at (key_cmp k) q
same_tie k q = tied_by k q _ _ refl refl

-- the value that a list of entries has at a key's tree key
abbrev pub placed_at : {X : Type 0} → List (List ℕ × X) → List ℕ → Option X
placed_at es key = lookup (is_at (tree_key_cmp key)) es

same_lookup : {X : Type 0} (es : List (List ℕ × X)) (q : List ℕ) → placed_at es q ≡ lookup (is_at (key_cmp q)) es
same_lookup [] q = refl
same_lookup (e ∷ es) q = λ i. cond (same_tie q e.0 i) (Some e.1) (same_lookup es q i)

-- what the map of a tree's entries has at a key
pub get_tree_key : {X : Type 0} (es : List (List ℕ × X)) (q : List ℕ)
    → get (from_entries {R = key_cmp} es) q ≡ placed_at es q
get_tree_key es q = get_entry es q ∙ sym (same_lookup es q)

-- trees that differ at one tree key by a new value make maps that do
pub tree_key_put : {X : Type 0} (es fs : List (List ℕ × X)) (k : List ℕ) (v : X)
    → ((q : List ℕ) → placed_at fs q ≡ cond (is_at (tree_key_cmp k) q) (Some v) (placed_at es q))
    → from_entries {R = key_cmp} fs ≡ insert (from_entries es) k v
tree_key_put es fs k v h =
    one_put es fs k v (λ q. sym (same_lookup fs q) ∙ h q ∙ (λ i. cond (same_tie k q i) (Some v) (same_lookup es q i)))

-- trees that differ at one tree key by its absence make maps that do
pub tree_key_removed : {X : Type 0} (es fs : List (List ℕ × X)) (k : List ℕ)
    → ((q : List ℕ) → placed_at fs q ≡ cond (is_at (tree_key_cmp k) q) None (placed_at es q))
    → from_entries {R = key_cmp} fs ≡ remove (from_entries es) k
tree_key_removed es fs k h =
    one_removed es fs k (λ q. sym (same_lookup fs q) ∙ h q ∙ (λ i. cond (same_tie k q i) None (same_lookup es q i)))
