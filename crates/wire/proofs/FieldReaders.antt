-- Readers of single fields.
use Rattle.std.proofs.Common.{◌≡◌, ◌⊎◌, ℕ, zero, suc, ◌-◌, ◌*◌, ◌^◌, ◌<◌, ◌≤◌, Bool, true, false, cond, List, [], ◌∷◌}
use Rattle.std.proofs.Common.{◌++◌, length, take, drop, Result, Ok, Err, refl, sym, ap, subst, ◌∙◌, arith, inl, inr}
use Rattle.std.proofs.Common.{length-append, length-drop, length-take}
use Rattle.std.specs.Prelude.{nat_lt, not, ◌&&◌}
use Rattle.std.specs.List.{list_all}
use Rattle.std.specs.Int.{Width, w16, w32, w64, byte_len, from_be_bytes, to_be_bytes}
use Rattle.std.proofs.lemmas.Bool.{cases_lt, le-ltb, lt-ltb}
use Rattle.std.proofs.lemmas.List.{take_at, drop_at, take-append-drop, take-append-le, drop-append-le}
use Rattle.std.proofs.lemmas.Nat.{be_bytes_2, be_bytes_4, be_bytes_8, from_be_bytes-to_be_bytes_2}
use Rattle.std.proofs.lemmas.Nat.{from_be_bytes-to_be_bytes_4, from_be_bytes-to_be_bytes_8}
use Rattle.table.specs.Keys.{is_key_byte}
use Rattle.wire.specs.declared.fields.Stop.{Stop}
use Rattle.wire.specs.declared.fields.Stop.TheVariants.{Short, Malformed, Old}
use Rattle.wire.specs.Parts.{followed, makes, byte, number, bytes_of, text_of}
use Rattle.wire.specs.Fronts.{Read, ◌>>=◌, within, byte_at, number_at, bytes_at, text_at}
use Rattle.wire.proofs.Readers.{IsBytes, IsBytes-take, IsReader, in_turn, made, same_reader}

-- ---- a range

-- a value that passes the test of its range is the one that was read
pub within_ok : {A : Type 0} (b : Bool) (x y : A) → within b x ≡ Ok y → (b ≡ true) × (x ≡ y)
within_ok true x y e = (refl, cc)
within_ok false x y e = absurd cc

within_bad : {A : Type 0} (b : Bool) (x : A) → within b x ≡ Err Malformed → b ≡ false
within_bad true x e = absurd cc
within_bad false x e = refl

-- the test of a range waits for no bytes
pub within_short : {A : Type 0} (b : Bool) (x : A) (k : ℕ) → within b x ≡ Err (Short k) → ⊥
within_short true x k e = cc
within_short false x k e = cc

within_old : {A : Type 0} (b : Bool) (x : A) → within b x ≡ Err Old → ⊥
within_old true x e = cc
within_old false x e = cc

-- ---- a byte

-- a byte that is read is in its range, and stands at the front
pub byte_takes : (range : ℕ → Bool) (bytes : List ℕ) (x : ℕ) (rest : List ℕ)
    → byte_at range bytes ≡ Ok (x, rest)
    → (text : List ℕ) × (byte range).Spells x text × (bytes ≡ text ++ rest)
byte_takes range [] x rest e = absurd cc
byte_takes range (b ∷ bytes) x rest e =
    let w = within_ok (range b) (b, bytes) (x, rest) e in
    let same : b ≡ x = ap (λ (p : ℕ × List ℕ). p.0) w.1 in
    let behind : bytes ≡ rest = ap (λ (p : ℕ × List ℕ). p.1) w.1 in
    (x ∷ [], (subst (λ n. range n ≡ true) same w.0, refl), rw (same, behind) refl)

byte_again : (range : ℕ → Bool) (x : ℕ) (text rest : List ℕ)
    → (byte range).Spells x text
    → byte_at range (text ++ rest) ≡ Ok (x, rest)
byte_again range x text rest s = ap (λ (t : List ℕ). byte_at range (t ++ rest)) s.1 ∙ ap (λ b. within b (x, rest)) s.0

byte_bad : (range : ℕ → Bool) (bytes : List ℕ) → byte_at range bytes ≡ Err Malformed → (byte range).Bad bytes
byte_bad range [] e = absurd cc
byte_bad range (b ∷ bytes) e = (b, bytes, refl, within_bad (range b) (b, bytes) e)

byte_refuses : (range : ℕ → Bool) (bytes : List ℕ) → (byte range).Bad bytes → byte_at range bytes ≡ Err Malformed
byte_refuses range bytes b = ap (byte_at range) b.2 ∙ ap (λ t. within t (b.0, b.1)) b.3

byte_old : (range : ℕ → Bool) (bytes : List ℕ) → byte_at range bytes ≡ Err Old → ⊥
byte_old range [] e = cc
byte_old range (b ∷ bytes) e = within_old (range b) (b, bytes) e

byte_stays : (range : ℕ → Bool) (bytes more : List ℕ) (x : ℕ) (rest : List ℕ)
    → byte_at range bytes ≡ Ok (x, rest)
    → byte_at range (bytes ++ more) ≡ Ok (x, rest ++ more)
byte_stays range [] more x rest e = absurd cc
byte_stays range (b ∷ bytes) more x rest e =
    let w = within_ok (range b) (b, bytes) (x, rest) e in
    ap (λ t. within t (b, bytes ++ more)) w.0 ∙ ap (λ (p : ℕ × List ℕ). Ok (p.0, p.1 ++ more)) w.1

byte_stays_bad : (range : ℕ → Bool) (bytes more : List ℕ)
    → byte_at range bytes ≡ Err Malformed
    → byte_at range (bytes ++ more) ≡ Err Malformed
byte_stays_bad range [] more e = absurd cc
byte_stays_bad range (b ∷ bytes) more e = ap (λ t. within t (b, bytes ++ more)) (within_bad (range b) (b, bytes) e)

byte_waits : (range : ℕ → Bool) (bytes more : List ℕ) (k : ℕ)
    → byte_at range bytes ≡ Err (Short k)
    → length more < k
    → byte_at range (bytes ++ more) ≡ Err (Short (k - length more))
byte_waits range [] [] k e few = let one : 1 ≡ k = cc in let same : k - 0 ≡ 1 = omega arith in rw same refl
byte_waits range [] (m ∷ more) k e few = let one : 1 ≡ k = cc in absurd (omega arith)
byte_waits range (b ∷ bytes) more k e few = absurd (within_short (range b) (b, bytes) k e)

byte_shrinks : (range : ℕ → Bool) (bytes : List ℕ) (x : ℕ) (rest : List ℕ)
    → byte_at range bytes ≡ Ok (x, rest)
    → length rest ≤ length bytes
byte_shrinks range [] x rest e = absurd cc
byte_shrinks range (b ∷ bytes) x rest e =
    let w = within_ok (range b) (b, bytes) (x, rest) e in
    let behind : bytes ≡ rest = ap (λ (p : ℕ × List ℕ). p.1) w.1 in rw (← behind) (omega arith)

-- a byte is read as the format says
pub byte_reader : (range : ℕ → Bool) → IsReader (byte_at range) (byte range)
byte_reader range = record {
  takes = λ bytes x rest fits e. byte_takes range bytes x rest e;
  again = byte_again range;
  bad = λ bytes fits e. byte_bad range bytes e;
  refuses = byte_refuses range;
  never_old = byte_old range;
  stays = byte_stays range;
  stays_bad = byte_stays_bad range;
  waits = byte_waits range;
  shrinks = byte_shrinks range;
}

-- ---- n bytes that are there or not

-- a test that tells whether n bytes are there
here : (n : ℕ) (bytes : List ℕ)
    → (nat_lt (length bytes) n ≡ true) × (length bytes < n) ⊎ (nat_lt (length bytes) n ≡ false) × (n ≤ length bytes)
here n bytes =
    elim (cases_lt (length bytes) n) [
      | inl lt ↦ inl (lt-ltb _ _ lt, lt)
      | inr le ↦ inr (le-ltb _ _ le, le)
    ]

-- what comes of n bytes at the front if they are there, and else how many are missing
abbrev pub counted : {A : Type 0} → ℕ → (List ℕ → Result A Stop) → List ℕ → Result A Stop
counted n f bytes = cond (nat_lt (length bytes) n) (Err (Short (n - length bytes))) (f bytes)

-- what comes of n bytes at the front comes only if they are there
pub counted_ok : {A : Type 0} (n : ℕ) (f : List ℕ → Result A Stop) (bytes : List ℕ) (x : A)
    → counted n f bytes ≡ Ok x
    → (n ≤ length bytes) × (f bytes ≡ Ok x)
counted_ok n f bytes x e =
    elim (here n bytes) [
      | inl short ↦ let stop : counted n f bytes ≡ Err (Short (n - length bytes)) = rw short.0 refl in absurd cc
      | inr long ↦ (long.1, (rw long.0 at e))
    ]

-- if bytes are missing, they are n less those that are there
pub counted_short : {A : Type 0} (n : ℕ) (f : List ℕ → Result A Stop) (bytes : List ℕ) (k : ℕ)
    → ((k : ℕ) → f bytes ≡ Err (Short k) → ⊥)
    → counted n f bytes ≡ Err (Short k)
    → (length bytes < n) × (n - length bytes ≡ k)
counted_short n f bytes k never e =
    elim (here n bytes) [
      | inl short ↦ let stop : counted n f bytes ≡ Err (Short (n - length bytes)) = rw short.0 refl in (short.1, cc)
      | inr long ↦ absurd (never k (rw long.0 at e))
    ]

counted_waits : {A : Type 0} (n : ℕ) (f : List ℕ → Result A Stop) (bytes more : List ℕ) (k : ℕ)
    → ((k : ℕ) → f bytes ≡ Err (Short k) → ⊥)
    → counted n f bytes ≡ Err (Short k)
    → length more < k
    → counted n f (bytes ++ more) ≡ Err (Short (k - length more))
counted_waits n f bytes more k never e few =
    let s = counted_short n f bytes k never e in
    let a = s.0 in
    let b = s.1 in
    let test : nat_lt (length (bytes ++ more)) n ≡ true = lt-ltb _ _ (omega (arith, length-append bytes more)) in
    let left : n - length (bytes ++ more) ≡ k - length more = omega (arith, length-append bytes more) in
    rw (test, left) refl

counted_at : {A : Type 0} (n : ℕ) (f : List ℕ → Result A Stop) (bytes : List ℕ)
    → n ≤ length bytes
    → counted n f bytes ≡ f bytes
counted_at n f bytes le = rw (le-ltb (length bytes) n le) refl

-- ---- numbers

-- what is known of a width: its numbers are written as that many bytes, and read again
pub record IsWide (w : Width) : Type 0 where
  pub len : (n : ℕ) → length (to_be_bytes w n) ≡ byte_len w
  pub back : (bytes : List ℕ)
      → length bytes ≡ byte_len w
      → IsBytes bytes
      → to_be_bytes w (from_be_bytes w bytes) ≡ bytes
  pub again : (n : ℕ) → n < 2 ^ (8 * byte_len w) → from_be_bytes w (to_be_bytes w n) ≡ n
  pub below : (bytes : List ℕ) → IsBytes bytes → from_be_bytes w bytes < 2 ^ (8 * byte_len w)

-- numbers of two bytes are read again as they were written
pub wide16 : IsWide w16
wide16 = record {
  len = λ n. refl;
  back = λ bytes len fits. be_bytes_2 bytes _ len fits refl;
  again = λ n lt. from_be_bytes-to_be_bytes_2 n lt;
  below = λ bytes fits. omega (arith, fits 0, fits 1);
}

-- numbers of four bytes are read again as they were written
pub wide32 : IsWide w32
wide32 = record {
  len = λ n. refl;
  back = λ bytes len fits. be_bytes_4 bytes _ len fits refl;
  again = λ n lt. from_be_bytes-to_be_bytes_4 n lt;
  below = λ bytes fits. omega (arith, fits 0, fits 1, fits 2, fits 3);
}

-- numbers of eight bytes are read again as they were written
pub wide64 : IsWide w64
wide64 = record {
  len = λ n. refl;
  back = λ bytes len fits. be_bytes_8 bytes _ len fits refl;
  again = λ n lt. from_be_bytes-to_be_bytes_8 n lt;
  below = λ bytes fits. omega (arith, fits 0, fits 1, fits 2, fits 3, fits 4, fits 5, fits 6, fits 7);
}

-- the number at the front, judged
abbrev pub judged : Width → (ℕ → Bool) → List ℕ → Read ℕ
judged w range bytes =
    within (range (from_be_bytes w (take (byte_len w) bytes)))
    (from_be_bytes w (take (byte_len w) bytes), drop (byte_len w) bytes)

-- the bytes of the number that was read
front_is : (w : Width)
    → IsWide w
    → (bytes : List ℕ)
    → byte_len w ≤ length bytes
    → IsBytes bytes
    → bytes ≡ to_be_bytes w (from_be_bytes w (take (byte_len w) bytes)) ++ drop (byte_len w) bytes
front_is w wide bytes long fits =
    let front = wide.back (take (byte_len w) bytes) (omega (arith, length-take (byte_len w) bytes))
    (IsBytes-take (byte_len w) bytes fits) in
    sym (ap (λ (t : List ℕ). t ++ drop (byte_len w) bytes) front ∙ take-append-drop (byte_len w) bytes)

-- a spelled number is judged by its value
judged_again : (w : Width) (range : ℕ → Bool)
    → IsWide w
    → (n : ℕ) (rest : List ℕ)
    → n < 2 ^ (8 * byte_len w)
    → number_at w range (to_be_bytes w n ++ rest) ≡ within (range n) (n, rest)
judged_again w range wide n rest lt =
    let len = wide.len n in
    counted_at (byte_len w) (judged w range) (to_be_bytes w n ++ rest)
    (omega (arith, length-append (to_be_bytes w n) rest))
    ∙ rw (
      take_at (to_be_bytes w n) rest (byte_len w) len,
      drop_at (to_be_bytes w n) rest (byte_len w) len,
      wide.again n lt,
    ) refl

judged_more : (w : Width) (range : ℕ → Bool) (bytes more : List ℕ) → byte_len w ≤ length bytes
    → judged w range (bytes ++ more) ≡ within (range (from_be_bytes w (take (byte_len w) bytes)))
    (from_be_bytes w (take (byte_len w) bytes), drop (byte_len w) bytes ++ more)
judged_more w range bytes more long =
    rw (take-append-le (byte_len w) bytes more long, drop-append-le (byte_len w) bytes more long) refl

-- a number of two, four or eight bytes is read as the format says
pub number_reader : (w : Width) (range : ℕ → Bool) → IsWide w → IsReader (number_at w range) (number w range)
number_reader w range wide = record {
  takes = λ bytes x rest fits e.
      let c = counted_ok (byte_len w) (judged w range) bytes (x, rest) e in
      let k = within_ok (range (from_be_bytes w (take (byte_len w) bytes)))
      (from_be_bytes w (take (byte_len w) bytes), drop (byte_len w) bytes) (x, rest) c.1 in
      let same : from_be_bytes w (take (byte_len w) bytes) ≡ x = ap (λ (p : ℕ × List ℕ). p.0) k.1 in
      let behind : drop (byte_len w) bytes ≡ rest = ap (λ (p : ℕ × List ℕ). p.1) k.1 in (
        to_be_bytes w x,
        (
          subst (λ n. n < 2 ^ (8 * byte_len w)) same
              (wide.below (take (byte_len w) bytes) (IsBytes-take (byte_len w) bytes fits)),
          subst (λ n. range n ≡ true) same k.0,
          refl,
        ),
        front_is w wide bytes c.0 fits ∙ ap (λ (p : ℕ × List ℕ). to_be_bytes w p.0 ++ p.1) k.1,
      );
  again = λ x text rest s.
      ap (λ (t : List ℕ). number_at w range (t ++ rest)) s.2 ∙ judged_again w range wide x rest s.0
      ∙ ap (λ b. within b (x, rest)) s.1;
  bad = λ bytes fits e.
      let c = number_bad w range bytes e in (
        from_be_bytes w (take (byte_len w) bytes),
        drop (byte_len w) bytes,
        wide.below (take (byte_len w) bytes) (IsBytes-take (byte_len w) bytes fits),
        front_is w wide bytes c.0 fits,
        c.1,
      );
  refuses = λ bytes b.
      ap (number_at w range) b.3 ∙ judged_again w range wide b.0 b.1 b.2 ∙ ap (λ t. within t (b.0, b.1)) b.4;
  never_old = λ bytes e. number_old w range bytes e;
  stays = λ bytes more x rest e.
      let c = counted_ok (byte_len w) (judged w range) bytes (x, rest) e in
      let k = within_ok (range (from_be_bytes w (take (byte_len w) bytes)))
      (from_be_bytes w (take (byte_len w) bytes), drop (byte_len w) bytes) (x, rest) c.1 in
      counted_at (byte_len w) (judged w range) (bytes ++ more) (omega (arith, c.0, length-append bytes more))
      ∙ judged_more w range bytes more c.0
      ∙ ap (λ b. within b (from_be_bytes w (take (byte_len w) bytes), drop (byte_len w) bytes ++ more)) k.0
      ∙ ap (λ (p : ℕ × List ℕ). Ok (p.0, p.1 ++ more)) k.1;
  stays_bad = λ bytes more e.
      let c = number_bad w range bytes e in
      counted_at (byte_len w) (judged w range) (bytes ++ more) (omega (arith, c.0, length-append bytes more))
      ∙ judged_more w range bytes more c.0
      ∙ ap (λ b. within b (from_be_bytes w (take (byte_len w) bytes), drop (byte_len w) bytes ++ more)) c.1;
  waits = λ bytes more k e few.
      counted_waits (byte_len w) (judged w range) bytes more k
      (λ k e. within_short (range (from_be_bytes w (take (byte_len w) bytes)))
      (from_be_bytes w (take (byte_len w) bytes), drop (byte_len w) bytes) k e) e few;
  shrinks = λ bytes x rest e.
      let c = counted_ok (byte_len w) (judged w range) bytes (x, rest) e in
      let k = within_ok (range (from_be_bytes w (take (byte_len w) bytes)))
      (from_be_bytes w (take (byte_len w) bytes), drop (byte_len w) bytes) (x, rest) c.1 in
      let behind : drop (byte_len w) bytes ≡ rest = ap (λ (p : ℕ × List ℕ). p.1) k.1 in
      rw (← behind) (omega (arith, length-drop (byte_len w) bytes));
}
  where
    number_bad : (w : Width) (range : ℕ → Bool) (bytes : List ℕ)
        → number_at w range bytes ≡ Err Malformed
        → (byte_len w ≤ length bytes) × (range (from_be_bytes w (take (byte_len w) bytes)) ≡ false)
    number_bad w range bytes e =
        elim (here (byte_len w) bytes) [
          | inl short ↦ let stop : number_at w range bytes ≡ Err (Short (byte_len w - length bytes)) =
              rw short.0 refl in absurd cc
          | inr long ↦ (
            long.1,
            within_bad (range (from_be_bytes w (take (byte_len w) bytes)))
                (from_be_bytes w (take (byte_len w) bytes), drop (byte_len w) bytes) (rw long.0 at e),
          )
        ]

    number_old : (w : Width) (range : ℕ → Bool) (bytes : List ℕ) → number_at w range bytes ≡ Err Old → ⊥
    number_old w range bytes e =
        elim (here (byte_len w) bytes) [
          | inl short ↦ let stop : number_at w range bytes ≡ Err (Short (byte_len w - length bytes)) =
              rw short.0 refl in absurd cc
          | inr long ↦ within_old (range (from_be_bytes w (take (byte_len w) bytes)))
              (from_be_bytes w (take (byte_len w) bytes), drop (byte_len w) bytes) (rw long.0 at e)
        ]

-- ---- any n bytes

-- the first n bytes, and those after them
abbrev pub cut : ℕ → List ℕ → Read (List ℕ)
cut n bytes = Ok (take n bytes, drop n bytes)

-- any n bytes are read as the format says
pub bytes_reader : (n : ℕ) → IsReader (bytes_at n) (bytes_of n)
bytes_reader n = record {
  takes = λ bytes x rest fits e.
      let c = counted_ok n (cut n) bytes (x, rest) e in
      let p = parts_of (take n bytes) x (drop n bytes) rest c.1 in
      let a = c.0 in (
        x,
        (
          ap length (sym p.0) ∙ (let full : length (take n bytes) ≡ n = omega (arith, length-take n bytes) in full),
          refl,
        ),
        sym (take-append-drop n bytes) ∙ rw (p.0, p.1) refl,
      );
  again = λ x text rest s.
      let len = s.0 in
      ap (λ (t : List ℕ). bytes_at n (t ++ rest)) s.1
      ∙ counted_at n (cut n) (x ++ rest) (omega (arith, length-append x rest))
      ∙ rw (take_at x rest n s.0, drop_at x rest n s.0) refl;
  bad = λ bytes fits e. bytes_bad n bytes e;
  refuses = λ bytes b. absurd b;
  never_old = λ bytes e. bytes_old n bytes e;
  stays = λ bytes more x rest e.
      let c = counted_ok n (cut n) bytes (x, rest) e in
      let p = parts_of (take n bytes) x (drop n bytes) rest c.1 in
      let a = c.0 in
      counted_at n (cut n) (bytes ++ more) (omega (arith, length-append bytes more))
      ∙ rw (take-append-le n bytes more a, drop-append-le n bytes more a, p.0, p.1) refl;
  stays_bad = λ bytes more e. absurd (bytes_bad n bytes e);
  waits = λ bytes more k e few. counted_waits n (cut n) bytes more k (λ k e. cc) e few;
  shrinks = λ bytes x rest e.
      let c = counted_ok n (cut n) bytes (x, rest) e in
      let p = parts_of (take n bytes) x (drop n bytes) rest c.1 in
      let behind = p.1 in
      rw (← behind) (omega (arith, length-drop n bytes));
}
  where
    parts_of : (x y a b : List ℕ) → ◌≡◌ {A = Read (List ℕ)} (Ok (x, a)) (Ok (y, b)) → (x ≡ y) × (a ≡ b)
    parts_of x y a b e = let pair : (x, a) ≡ (y, b) =
        cc in (ap (λ (p : List ℕ × List ℕ). p.0) pair, ap (λ (p : List ℕ × List ℕ). p.1) pair)

    bytes_bad : (n : ℕ) (bytes : List ℕ) → bytes_at n bytes ≡ Err Malformed → ⊥
    bytes_bad n bytes e =
        elim (here n bytes) [
          | inl short ↦ let stop : bytes_at n bytes ≡ Err (Short (n - length bytes)) = rw short.0 refl in cc
          | inr long ↦ let went : bytes_at n bytes ≡ cut n bytes = rw long.0 refl in cc
        ]

    bytes_old : (n : ℕ) (bytes : List ℕ) → bytes_at n bytes ≡ Err Old → ⊥
    bytes_old n bytes e =
        elim (here n bytes) [
          | inl short ↦ let stop : bytes_at n bytes ≡ Err (Short (n - length bytes)) = rw short.0 refl in cc
          | inr long ↦ let went : bytes_at n bytes ≡ cut n bytes = rw long.0 refl in cc
        ]

-- ---- the bytes of a key

-- one after another
text_by_byte : ℕ → List ℕ → Read (List ℕ)
text_by_byte zero bytes = Ok ([], bytes)
text_by_byte (suc n) bytes = byte_at is_key_byte bytes >>= λ b. text_by_byte n b.1 >>= λ bs. Ok (b.0 ∷ bs.0, bs.1)

by_byte_reader : (n : ℕ) → IsReader (text_by_byte n) (text_of is_key_byte n)
unfolding text_by_byte
by_byte_reader zero = made []
by_byte_reader (suc n) =
    in_turn (byte_at is_key_byte) (byte is_key_byte) (λ b rest. text_by_byte n rest >>= λ bs. Ok (b ∷ bs.0, bs.1))
    (λ b. followed (text_of is_key_byte n) (λ bs. makes (b ∷ bs)))
    (byte_reader is_key_byte)
    (λ b. in_turn (text_by_byte n) (text_of is_key_byte n) (λ bs rest. Ok (b ∷ bs, rest)) (λ bs. makes (b ∷ bs))
    (by_byte_reader n) (λ bs. made (b ∷ bs)))

-- with this byte in front
abbrev in_front : ℕ → List ℕ × List ℕ → Read (List ℕ)
in_front b bs = Ok (b ∷ bs.0, bs.1)

-- a byte more on both sides
one_less : (n k : ℕ) → nat_lt k n ≡ nat_lt (suc k) (suc n)
one_less n k =
    elim (cases_lt k n) [
      | inl lt ↦ lt-ltb k n lt ∙ sym (lt-ltb (suc k) (suc n) (omega arith))
      | inr le ↦ le-ltb k n le ∙ sym (le-ltb (suc k) (suc n) (omega arith))
    ]

-- by what is told of the bytes after the first one
abbrev text_by : ℕ → Bool → Bool → List ℕ → Read (List ℕ)
text_by n all short bytes =
    cond (not all) (Err Malformed) (cond short (Err (Short 1)) (Ok (take (suc n) bytes, drop (suc n) bytes)))

-- as one: each byte that is there is judged
text_same : (n : ℕ) (bytes : List ℕ) → text_by_byte n bytes ≡ text_at n bytes
unfolding text_by_byte
text_same zero [] = refl
text_same zero (b ∷ bytes) = rw (le-ltb (length (b ∷ bytes)) 0 (omega arith)) refl
text_same (suc n) [] = rw (lt-ltb 0 (suc n) (omega arith)) refl
text_same (suc n) (b ∷ bytes) =
    by_first (is_key_byte b)
    ∙ ap (λ r. cond (is_key_byte b) (r >>= in_front b) (Err Malformed)) (text_same n bytes)
    ∙ by_tests (is_key_byte b) (list_all is_key_byte (take n bytes)) (nat_lt (length bytes) n)
    ∙ ap (λ (short : Bool). text_by n (is_key_byte b && list_all is_key_byte (take n bytes)) short (b ∷ bytes))
    (one_less n (length bytes))
  where
    by_first : (t : Bool)
        → ◌>>=◌ {A = ℕ × List ℕ} (within t (b, bytes)) (λ x. text_by_byte n x.1 >>= in_front x.0)
        ≡ cond t (text_by_byte n bytes >>= in_front b) (Err Malformed)
    by_first true = refl
    by_first false = refl

    by_tests : (t all short : Bool)
        → cond t (◌>>=◌ {A = List ℕ × List ℕ}
        (cond (not all) (Err Malformed) (cond short (Err (Short 1)) (Ok (take n bytes, drop n bytes))))
        (in_front b)) (Err Malformed)
        ≡ cond (not (t && all)) (Err Malformed) (cond short (Err (Short 1)) (Ok (b ∷ take n bytes, drop n bytes)))
    by_tests true true true = refl
    by_tests true true false = refl
    by_tests true false true = refl
    by_tests true false false = refl
    by_tests false true true = refl
    by_tests false true false = refl
    by_tests false false true = refl
    by_tests false false false = refl

-- n bytes of a key are read as the format says
pub text_reader : (n : ℕ) → IsReader (text_at n) (text_of is_key_byte n)
text_reader n = same_reader (text_by_byte n) (text_at n) (text_of is_key_byte n) (text_same n) (by_byte_reader n)
