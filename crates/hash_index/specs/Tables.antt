-- Buckets of entries, as linear hashing has them.
use Rattle.std.specs.Prelude.{◌≡◌, ℕ, ◌*◌, ◌<◌, ◌≤◌, max, List, [], length, cond, Option, None, slice_index_or}
use Rattle.std.specs.List.{flat_map}
use Rattle.std.specs.BTreeMap.{is_at}
use Rattle.table.specs.Keys.{tree_key_cmp}
use Rattle.hash_index.specs.Places.{IsPower, place_of}
use Rattle.hash_index.specs.Entries.{value_at, AreApart}

-- the entries of all buckets
abbrev pub joined : {V : Type 0} → List (List (List ℕ × V)) → List (List ℕ × V)
joined buckets = flat_map (λ b. b) buckets

-- a bucket, with no entries if there is none
abbrev pub bucket_at : {V : Type 0} → List (List (List ℕ × V)) → ℕ → List (List ℕ × V)
bucket_at buckets i = slice_index_or buckets i []

-- a key has this value now, or none, and each other key has what it had
abbrev pub HasNow : {V : Type 0} → List ℕ → Option V → List (List ℕ × V) → List (List ℕ × V) → Type 0
HasNow key value old new = (q : List ℕ) → value_at new q ≡ cond (is_at (tree_key_cmp key) q) value (value_at old q)

-- each key has what it had
abbrev pub SameValues : {V : Type 0} → List (List ℕ × V) → List (List ℕ × V) → Type 0
SameValues old new = (q : List ℕ) → value_at new q ≡ value_at old q

-- Buckets by a power of two, `half`: there are at least that many, if there are any, and at most twice as many. Each
-- key is in the bucket of its place alone, and there once.
pub record AreBuckets {V : Type 0} (half : ℕ) (buckets : List (List (List ℕ × V))) : Type 0 where
  pub power : IsPower half
  pub positive : 0 < half
  pub enough : half ≤ max 1 (length buckets)
  pub few : length buckets ≤ 2 * half
  pub placed : (j : ℕ) (q : List ℕ) → (place_of half (length buckets) q ≡ j → ⊥) → value_at (bucket_at buckets j) q ≡
      None
  pub apart : (j : ℕ) → AreApart (bucket_at buckets j)
