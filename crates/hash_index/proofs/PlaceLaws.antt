-- Buckets of numbers, as the count of buckets grows.
use Rattle.std.proofs.Common.{◌≡◌, ℕ, ◌+◌, ◌-◌, ◌*◌, ◌%◌, ◌<◌, ◌≤◌, ◌⊎◌, ⊎_elim, inl, inr, sym, ◌∙◌, arith}
use Rattle.std.proofs.lemmas.Bool.{cases_lt}
use Rattle.std.proofs.lemmas.Bool.Decides.{nat_tests}
use native.Mathlib.Nat.{mod-lt, mod-eq_of_lt, mod-eq-sub-mod, mod-mod_of_dvd, dvd-mul_left}
use Rattle.hash_index.specs.Places.{bucket_of}

-- the rest by twice a number is the rest by that number, or that and the number
pub mod_twice : (n half : ℕ) → 0 < half → (n % (2 * half) ≡ n % half) ⊎ (n % (2 * half) ≡ n % half + half)
mod_twice n half pos =
    let once : n % (2 * half) % half ≡ n % half = mod-mod_of_dvd half n (dvd-mul_left half 2) in
    let twice : n % (2 * half) < 2 * half = mod-lt n (omega arith) in
    ⊎_elim (λ low. inl (sym (mod-eq_of_lt low) ∙ once))
    (λ high.
    let rest : n % (2 * half) - half < half = omega arith in
    let less : n % (2 * half) % half ≡ n % (2 * half) - half = mod-eq-sub-mod high ∙ mod-eq_of_lt rest in
    inr (omega arith))
    (cases_lt (n % (2 * half)) half)

-- a bucket that is there
pub bucket_of-below : (half count n : ℕ) → 0 < half → half ≤ count → bucket_of half count n < count
bucket_of-below half count n pos enough =
    let rest : n % half < half = mod-lt n pos in
    grind (arith, nat_tests)

-- with twice the buckets of `half`, `half` may be doubled
pub bucket_of-doubled : (half n : ℕ) → 0 < half
    → bucket_of (2 * half) (2 * half) n ≡ bucket_of half (2 * half) n
bucket_of-doubled half n pos =
    let small : n % (2 * half) < 2 * half = mod-lt n (omega arith) in
    let both = mod_twice n (2 * half) (omega arith) in
    grind (arith, nat_tests)

-- with one more bucket, a number is of the new one, and was of the one that is split; or it stays
pub bucket_of-grown : (half count n : ℕ) → 0 < half → half ≤ count → count < 2 * half
    → ((bucket_of half (count + 1) n ≡ count) × (bucket_of half count n ≡ count - half))
    ⊎ ((bucket_of half (count + 1) n ≡ bucket_of half count n) × (bucket_of half count n < count))
bucket_of-grown half count n pos enough few =
    let rest : n % half < half = mod-lt n pos in
    let both = mod_twice n half pos in
    grind (arith, nat_tests)
