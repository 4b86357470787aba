-- The end of a snapshot: three numbers.
use Rattle.std.proofs.Common.{◌≡◌, ℕ, suc, ◌+◌, ◌*◌, ◌%◌, ◌<◌, ◌≤◌, ◌^◌, List, [], ◌∷◌}
use Rattle.std.proofs.Common.{◌++◌, length, take, drop, refl, ap}
use Rattle.std.proofs.Common.{sym, subst, ◌∙◌, arith, Bool, true, false, append_assoc, length-drop}
use Rattle.std.proofs.lemmas.List.{take-append-drop, drop-drop, take_all, length-take}
use Rattle.std.proofs.lemmas.Bool.{eqb-true}
use Rattle.std.specs.Int.{Width, w32, w64, byte_len, from_be_bytes, to_be_bytes}
use Rattle.std.specs.List.{fold}
use Rattle.wire.specs.Spellings.{eight_bytes, four_bytes}
use Rattle.wire.proofs.Readers.{IsBytes, IsBytes-take, IsBytes-drop}
use Rattle.wire.proofs.FieldReaders.{IsWide, wide32, wide64}
use Rattle.snapshots.specs.Sums.{Halves, halves, halves_of, sum_of, with_byte}
use Rattle.snapshots.specs.Snapshots.{counts}
use Rattle.snapshots.specs.Readings.{at_end, count_at, rows_at, sum_at}

-- ---- sums

-- both halves are below the modulus
record AreBelow (h : Halves) : Type 0 where
  low_below : h.low < 65521
  high_below : h.high < 65521

halves_below : (h : Halves) (bytes : List ℕ) → AreBelow h → AreBelow (fold with_byte h bytes)
halves_below h [] below = below
halves_below h (b ∷ bytes) below =
    halves_below (with_byte h b) bytes (record { low_below = omega arith; high_below = omega arith })

fits : (low high : ℕ) → low < 65521 → high < 65521 → high * 65536 + low < 2 ^ 32
fits low high l h = omega arith

-- a sum has room in four bytes
pub sum_fits : (bytes : List ℕ) → sum_of bytes < 2 ^ 32
unfolding sum_of halves_of
sum_fits bytes =
    let h : AreBelow (fold with_byte (halves 1 0) bytes) =
    halves_below (halves 1 0) bytes (record { low_below = omega arith; high_below = omega arith }) in
    fits (fold with_byte (halves 1 0) bytes).low (fold with_byte (halves 1 0) bytes).high h.low_below h.high_below

-- ---- three numbers

-- twenty bytes in three parts
cut_three : (t : List ℕ) → length t ≡ 20 → t ≡ take 8 t ++ (take 8 (drop 8 t) ++ take 4 (drop 16 t))
cut_three t len =
    sym (take-append-drop 8 t)
    ∙ ap (λ (x : List ℕ). take 8 t ++ x)
    (sym (take-append-drop 8 (drop 8 t))
    ∙ ap (λ (x : List ℕ). take 8 (drop 8 t) ++ x)
    (drop-drop 8 8 t ∙ sym (take_all 4 (drop 16 t) (omega (arith, len, length-drop 16 t)))))

-- a part that is a number
number_again : (w : Width) → IsWide w → (part : List ℕ) → IsBytes part → length part ≡ byte_len w
    → part ≡ to_be_bytes w (from_be_bytes w part)
number_again w wide part bytes len = sym (wide.back part len bytes)

three : (a b c x y z : List ℕ) → a ≡ x → b ≡ y → c ≡ z → a ++ (b ++ c) ≡ x ++ (y ++ z)
three a b c x y z e f g = cc

-- the same behind the end's first byte
joined : (b : ℕ) (t c r s : List ℕ) → b ≡ 0 → t ≡ c ++ (r ++ s) → b ∷ t ≡ (0 ∷ (c ++ r)) ++ s
joined b t c r s first e =
    ap (λ (x : List ℕ). b ∷ x) (e ∙ sym (append_assoc c r s)) ∙ ap (λ (n : ℕ). n ∷ ((c ++ r) ++ s)) first

-- an end of 21 bytes says three numbers
pub rebuilt : (u : List ℕ) → IsBytes u → length u ≡ 21 → at_end u ≡ true
    → u ≡ counts (count_at u) (rows_at u) ++ four_bytes (sum_at u)
rebuilt [] bytes len e = absurd cc
rebuilt (b ∷ t) bytes len e =
    let tail : IsBytes t = λ i. bytes (suc i) in
    let long : length t ≡ 20 = omega (arith, len) in
    let c = number_again w64 wide64 (take 8 t) (IsBytes-take 8 t tail) (omega (arith, long, length-take 8 t)) in
    let r = number_again w64 wide64 (take 8 (drop 8 t)) (IsBytes-take 8 (drop 8 t) (IsBytes-drop 8 t tail))
    (omega (arith, long, length-take 8 (drop 8 t), length-drop 8 t)) in
    let s = number_again w32 wide32 (take 4 (drop 16 t)) (IsBytes-take 4 (drop 16 t) (IsBytes-drop 16 t tail))
    (omega (arith, long, length-take 4 (drop 16 t), length-drop 16 t)) in
    joined b t (eight_bytes (from_be_bytes w64 (take 8 t))) (eight_bytes (from_be_bytes w64 (take 8 (drop 8 t))))
    (four_bytes (from_be_bytes w32 (take 4 (drop 16 t)))) (eqb-true b 0 e)
    (cut_three t long ∙ three (take 8 t) (take 8 (drop 8 t)) (take 4 (drop 16 t)) _ _ _ c r s)

-- and with those numbers by other names
pub said : (u : List ℕ) (count rows sum : ℕ) → IsBytes u → length u ≡ 21 → at_end u ≡ true
    → count ≡ count_at u
    → rows ≡ rows_at u
    → sum ≡ sum_at u
    → u ≡ counts count rows ++ four_bytes sum
said u count rows sum bytes len at c r s =
    rebuilt u bytes len at
    ∙ ap (λ (n : ℕ). counts n (rows_at u) ++ four_bytes (sum_at u)) (sym c)
    ∙ ap (λ (n : ℕ). counts count n ++ four_bytes (sum_at u)) (sym r)
    ∙ ap (λ (n : ℕ). counts count rows ++ four_bytes n) (sym s)

-- such an end says the numbers that it was made of
pub says_count : (count rows sum : ℕ) → count < 2 ^ 64 → count_at (counts count rows ++ four_bytes sum) ≡ count
says_count count rows sum lt = wide64.again count lt

pub says_rows : (count rows sum : ℕ) → rows < 2 ^ 64 → rows_at (counts count rows ++ four_bytes sum) ≡ rows
says_rows count rows sum lt = wide64.again rows lt

pub says_sum : (count rows sum : ℕ) → sum < 2 ^ 32 → sum_at (counts count rows ++ four_bytes sum) ≡ sum
says_sum count rows sum lt = wide32.again sum lt
