-- Which bucket a key belongs to: linear hashing (W. Litwin, "Linear Hashing: A New Tool for File and Table Addressing",
-- VLDB 1980).
use Rattle.std.specs.Prelude.{◌≡◌, ℕ, ◌+◌, ◌*◌, ◌/◌, ◌%◌, ◌^◌, Bool, cond, nat_lt, nat_eq, bit_xor, List}
use Rattle.table.specs.Keys.{hash_of}

-- the number by which a key is placed: its hash, with the upper half folded into the lower one
unfoldable pub spread : List ℕ → ℕ
spread key = bit_xor (hash_of key) (hash_of key / 2 ^ 32)

-- The bucket of a number, of this count. Buckets are numbered by the rest by twice `half`; one that isn't there yet is
-- still part of the bucket of the rest by `half`.
abbrev pub bucket_of : ℕ → ℕ → ℕ → ℕ
bucket_of half count number =
    cond (nat_lt (number % (2 * half)) count) (number % (2 * half)) (number % half)

-- the bucket of a key, of this count
abbrev pub place_of : ℕ → ℕ → List ℕ → ℕ
place_of half count key = bucket_of half count (spread key)

-- a key belongs to the new bucket, once there is one more than this count
abbrev pub goes : ℕ → ℕ → List ℕ → Bool
goes half count key = nat_eq (place_of half (count + 1) key) count

-- a power of two
abbrev pub IsPower : ℕ → Type 0
IsPower n = (k : ℕ) × (n ≡ 2 ^ k)
