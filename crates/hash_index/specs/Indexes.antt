-- An index, as its callers see it: entries, and what keys have.
use Rattle.std.specs.Prelude.{◌≡◌, ℕ, ◌+◌, List, ◌++◌, length, cond, Option, Some, IsSome}
use Rattle.std.specs.BTreeMap.{is_at}
use Rattle.table.specs.Keys.{tree_key_cmp}
use Rattle.hash_index.specs.declared.places.Place.{Place}
use Rattle.hash_index.specs.declared.places.Place.TheVariants.{Slot, Tree}
use Rattle.hash_index.specs.Entries.{value_at, key_in, AreApart}
use Rattle.hash_index.specs.Tables.{joined, bucket_at}

-- the entries of an index: those of its buckets, and the rest, whose bucket was full
pub record IndexContents (V : Type 0) : Type 0 where
  pub buckets : List (List (List ℕ × V))
  pub rest : List (List ℕ × V)

-- all entries, in no said order
abbrev pub entries : {V : Type 0} → IndexContents V → List (List ℕ × V)
entries c = joined c.buckets ++ c.rest

-- the value that a key has, or none
abbrev pub found_at : {V : Type 0} → IndexContents V → List ℕ → Option V
found_at c key = value_at (entries c) key

-- a key has this value now, or none, and each other key has what it had
abbrev pub HasAt : {V : Type 0} → List ℕ → Option V → IndexContents V → IndexContents V → Type 0
HasAt key value old new = (q : List ℕ) → found_at new q ≡ cond (is_at (tree_key_cmp key) q) value (found_at old q)

-- the entry of a key stands at this place
abbrev pub IsPlaceOf : {V : Type 0} → IndexContents V → Place → List ℕ → Type 0
IsPlaceOf c (Slot bucket slot) key = key_in (bucket_at c.buckets bucket) slot ≡ Some key
IsPlaceOf c Tree key = IsSome (value_at c.rest key)

-- how many steps take it apart: one for each bucket, and one for each entry
abbrev pub steps : {V : Type 0} → IndexContents V → ℕ
steps c = length c.buckets + length (joined c.buckets) + length c.rest

-- no two entries have one key, and this is how many there are
pub record IsIndex {V : Type 0} (buckets : List (List (List ℕ × V))) (rest : List (List ℕ × V)) (len : ℕ) : Type 0
  where
    pub apart : AreApart (joined buckets ++ rest)
    pub counted : length (joined buckets ++ rest) ≡ len
