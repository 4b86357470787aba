-- Times of calls, counted in buckets with fixed bounds (this project's rule).
use Rattle.std.specs.Prelude.{ℕ, ◌+◌, ◌-◌, ◌^◌, nat_lt, List, [], ◌∷◌, replicate, count_by, slice_index, slice_set, min}

-- how many times are in each bucket, and their sum in nanoseconds
pub record Times : Type 0 where
  pub counts : List ℕ
  pub sum : ℕ

-- the bounds of all buckets but the last one, in nanoseconds: 25 microseconds to 5 seconds
abbrev pub bounds : List ℕ
bounds =
    25000 ∷ 50000 ∷ 100000 ∷ 250000 ∷ 500000 ∷ 1000000 ∷ 2500000 ∷ 5000000 ∷ 10000000 ∷ 25000000 ∷ 50000000
    ∷ 100000000 ∷ 250000000 ∷ 1000000000 ∷ 5000000000 ∷ []

-- the bucket of a time: so many bounds are below it
abbrev pub bucket_of : ℕ → ℕ
bucket_of nanoseconds = count_by (λ bound. nat_lt bound nanoseconds) bounds

-- a number that fits, or the greatest one
abbrev pub capped : ℕ → ℕ
capped n = min n (2 ^ 64 - 1)

-- no time at all
abbrev pub none : Times
none = record { counts = replicate 16 0; sum = 0 }

-- one more in this bucket
abbrev pub counted : List ℕ → ℕ → List ℕ
counted counts bucket = slice_set counts bucket (capped (slice_index counts bucket + 1))

-- a time more
abbrev pub observed : Times → ℕ → Times
observed t nanoseconds = record {
  counts = counted t.counts (bucket_of nanoseconds);
  sum = capped (t.sum + nanoseconds);
}
