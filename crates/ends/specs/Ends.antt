-- How the histories of a source and a sink go on, and what a write that fails leaves.
use Rattle.std.specs.Prelude.{◌≡◌, ℕ, ◌+◌, ◌++◌, ◌==◌, ◌&&◌, ◌||◌, nat_le, List, [], length, take, Bool, Result, Ok}
use Rattle.std.specs.Prelude.{Err, if◌then◌else◌}

-- the bytes of the slice that a read gave, or a write took: as many of the first as it answers, and none if it answers
-- an error
abbrev pub passed : {E : Type 0} → Result ℕ E → List ℕ → List ℕ
passed (Ok n) bytes = take n bytes
passed (Err e) bytes = []

-- none of the bytes of a slice that isn't empty
abbrev pub is_none_of : ℕ → List ℕ → Bool
is_none_of n bytes = n == 0 && nat_le 1 (length bytes)

-- the failures of a sink after a write: one more if it answers an error, or takes no byte of a slice that isn't
-- empty
abbrev pub failures_after_write : {E : Type 0} → Result ℕ E → List ℕ → ℕ → ℕ
failures_after_write (Ok n) bytes failures = if is_none_of n bytes then failures + 1 else failures
failures_after_write (Err e) bytes failures = failures + 1

-- the failures of a source after a read: one more if it answers an error
abbrev pub failures_after_read : {E : Type 0} → Result ℕ E → ℕ → ℕ
failures_after_read (Ok n) failures = failures
failures_after_read (Err e) failures = failures + 1

-- whether the input of a source has ended, after a read: it had, or the read gave nothing for a slice that isn't empty
abbrev pub ended_after_read : {E : Type 0} → Result ℕ E → List ℕ → Bool → Bool
ended_after_read (Ok n) bytes ended = ended || is_none_of n bytes
ended_after_read (Err e) bytes ended = ended

-- a beginning of the bytes was written, and nothing else
abbrev pub WritesBeginning : List ℕ → List ℕ → List ℕ → Type 0
WritesBeginning before after bytes =
    (front : List ℕ) × (rest : List ℕ) × (bytes ≡ front ++ rest) × (after ≡ before ++ front)
