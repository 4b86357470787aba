-- The sum of bytes: Adler-32 (RFC 1950, section 8.2). It finds a broken file, and proves nothing more.
use Rattle.std.specs.Prelude.{◌≡◌, ℕ, ◌+◌, ◌*◌, ◌%◌, ◌<◌, List}
use Rattle.std.specs.List.{fold}

-- The two halves of a sum, each below 65521: one and the bytes, added up, and these totals after each byte, added up.
pub record Halves : Type 0 where
  pub low : ℕ
  pub high : ℕ

-- the halves of these values
abbrev pub halves : ℕ → ℕ → Halves
halves low high = record { low = low; high = high }

-- a byte more
abbrev pub with_byte : Halves → ℕ → Halves
with_byte h byte = halves ((h.low + byte) % 65521) ((h.high + (h.low + byte) % 65521) % 65521)

-- the halves of some bytes' sum
unfoldable pub halves_of : List ℕ → Halves
halves_of bytes = fold with_byte (halves 1 0) bytes

-- the sum of some bytes
unfoldable pub sum_of : List ℕ → ℕ
sum_of bytes = (halves_of bytes).high * 65536 + (halves_of bytes).low

-- these are the halves of the bytes' sum
pub record AreHalves (bytes : List ℕ) (low high : ℕ) : Type 0 where
  pub same : halves low high ≡ halves_of bytes
  pub low_bound : low < 65521
  pub high_bound : high < 65521
