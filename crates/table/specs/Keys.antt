-- Which bytes make a key, and the order of keys.
use Rattle.std.specs.Prelude.{ℕ, ◌+◌, ◌*◌, ◌^◌, ◌%◌, List, ◌∷◌, length, fold, Bool, ◌||◌, ◌&&◌, nat_le, IsTrue}
use Rattle.std.specs.List.{list_all}
use Rattle.std.specs.Ordering.{nat_cmp}
use Rattle.std.specs.declared.cmp.Ordering.{Ordering}
use Rattle.std.specs.Cmp.Lexicographic.{slice_cmp}

-- a byte that is no blank and no control character: 33 to 126, or 128 to 255
-- (protocol.txt, "Keys"; that 128 to 255 are allowed is this project's rule)
abbrev pub is_key_byte : ℕ → Bool
is_key_byte b = (nat_le 33 b && nat_le b 126) || (nat_le 128 b && nat_le b 255)

-- 1 to 250 such bytes
abbrev pub is_key : List ℕ → Bool
is_key bytes = nat_le 1 (length bytes) && nat_le (length bytes) 250 && list_all is_key_byte bytes

-- the bytes make a key
abbrev pub IsKey : List ℕ → Type 0
IsKey bytes = IsTrue (is_key bytes)

-- keys in the order of their bytes
abbrev pub key_cmp : List ℕ → List ℕ → Ordering
key_cmp = slice_cmp nat_cmp

-- the hash of some bytes and one more
abbrev pub hash_with : ℕ → ℕ → ℕ
hash_with hash b = (((hash + b) % (2 ^ 64)) * 11400714819323198485) % (2 ^ 64)

-- the hash of a key: a number that its bytes make, so that keys that follow one another lie far apart
unfoldable pub hash_of : List ℕ → ℕ
hash_of bytes = fold hash_with 0 bytes

-- where a key stands in a tree: by its hash, and then by its bytes
abbrev pub tree_key_of : List ℕ → List ℕ
tree_key_of key = hash_of key ∷ key

-- keys in the order of their tree keys
abbrev pub tree_key_cmp : List ℕ → List ℕ → Ordering
tree_key_cmp a b = slice_cmp nat_cmp (tree_key_of a) (tree_key_of b)
