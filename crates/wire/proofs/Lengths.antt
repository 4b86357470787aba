-- What a reader takes off is at most so long, and so is a front at which it waits.
use Rattle.std.proofs.Common.{◌≡◌, ℕ, ◌+◌, ◌<◌, ◌≤◌, Bool, true, false, cond, List, [], ◌∷◌, length, take, drop, Ok}
use Rattle.std.proofs.Common.{Err, refl, ap, arith, inl, inr, length-drop}
use Rattle.std.specs.Prelude.{nat_lt, not}
use Rattle.std.specs.List.{list_all}
use Rattle.std.specs.Int.{Width, byte_len, from_be_bytes}
use Rattle.std.proofs.lemmas.Bool.{cases_lt, le-ltb, lt-ltb}
use Rattle.table.specs.Keys.{is_key_byte}
use Rattle.wire.specs.declared.fields.Stop.TheVariants.{Short, Malformed}
use Rattle.wire.specs.Fronts.{Read, ◌>>=◌, byte_at, number_at, bytes_at, text_at}
use Rattle.wire.proofs.Readers.{bind_ok, bind_err}
use Rattle.wire.proofs.FieldReaders.{within_ok, within_short, counted_ok, counted_short, judged, cut}

-- a reader that takes off at most n bytes, and waits only at fewer
pub record IsWithin {A : Type 0} (most : ℕ) (read : List ℕ → Read A) : Type 0 where
  pub takes : (bytes : List ℕ) (x : A) (rest : List ℕ) → read bytes ≡ Ok (x, rest) → length bytes ≤ most + length rest
  pub waits : (bytes : List ℕ) (k : ℕ) → read bytes ≡ Err (Short k) → length bytes < most

-- a reader that keeps within a length keeps within a larger one
pub wider : {A : Type 0} (most larger : ℕ) (r : List ℕ → Read A) → most ≤ larger → IsWithin most r → IsWithin larger r
wider most larger r le h = record {
  takes = λ bytes x rest e. omega (arith, h.takes bytes x rest e);
  waits = λ bytes k e. omega (arith, h.waits bytes k e);
}

-- one reader after another, which may depend on what the first one gave
pub within_turn : {A B : Type 0} (m n : ℕ) (r : List ℕ → Read A) (r2 : A → List ℕ → Read B) → IsWithin m r
    → ((x : A) (bytes rest : List ℕ) → r bytes ≡ Ok (x, rest) → IsWithin n (r2 x))
    → IsWithin (m + n) (λ bytes. r bytes >>= λ x. r2 x.0 x.1)
within_turn m n r r2 first second = record {
  takes = λ bytes y rest e.
      let a = bind_ok (r bytes) (λ x. r2 x.0 x.1) (y, rest) e in
      let one = first.takes bytes a.0.0 a.0.1 a.1 in
      let two = (second a.0.0 bytes a.0.1 a.1).takes a.0.1 y rest a.2 in
      omega arith;
  waits = λ bytes k e.
      elim (bind_err (r bytes) (λ x. r2 x.0 x.1) (Short k) e) [
        | inl stopped ↦ omega (arith, first.waits bytes k stopped)
        | inr went ↦
            let one = first.takes bytes went.0.0 went.0.1 went.1 in
            let two = (second went.0.0 bytes went.0.1 went.1).waits went.0.1 k went.2 in
            omega arith
      ];
}

-- nothing more
pub within_made : {A : Type 0} (value : A) → IsWithin 0 (λ bytes. Ok (value, bytes))
within_made {A = A} value = record {
  takes = λ bytes x rest e. behind A value x bytes rest e;
  waits = λ bytes k e. absurd cc;
}
  where
    behind : (A : Type 0) (value x : A) (bytes rest : List ℕ)
        → ◌≡◌ {A = Read A} (Ok (value, bytes)) (Ok (x, rest))
        → length bytes ≤ 0 + length rest
    behind A value x bytes rest e =
        let pair : ◌≡◌ {A = A × List ℕ} (value, bytes) (x, rest) = cc in
        let same : bytes ≡ rest = ap (λ (p : A × List ℕ). p.1) pair in
        rw same (omega arith)

-- a reader, and a value made of what it gives
pub within_mapped : {A B : Type 0} (m : ℕ) (r : List ℕ → Read A) (f : A → B)
    → IsWithin m r
    → IsWithin m (λ bytes. r bytes >>= λ x. Ok (f x.0, x.1))
within_mapped m r f h =
    wider (m + 0) m _ (omega arith)
    (within_turn m 0 r (λ x rest. Ok (f x, rest)) h (λ x bytes rest e. within_made (f x)))

-- out of range, whatever follows
pub within_refusing : {A : Type 0} (most : ℕ) → IsWithin {A = A} most (λ bytes. Err Malformed)
within_refusing most = record { takes = λ bytes x rest e. absurd cc; waits = λ bytes k e. absurd cc }

-- one of two, by a test
pub within_chosen : {A : Type 0} (m : ℕ) (b : Bool) (r s : List ℕ → Read A)
    → IsWithin m r
    → IsWithin m s
    → IsWithin m (λ bytes. cond b (r bytes) (s bytes))
within_chosen m true r s first second = first
within_chosen m false r s first second = second

-- ---- fields

-- a reader of a byte takes off one byte at most
pub within_byte : (range : ℕ → Bool) → IsWithin 1 (byte_at range)
within_byte range = record { takes = byte_takes_one range; waits = byte_waits_one range }
  where
    byte_takes_one : (range : ℕ → Bool) (bytes : List ℕ) (x : ℕ) (rest : List ℕ)
        → byte_at range bytes ≡ Ok (x, rest)
        → length bytes ≤ 1 + length rest
    byte_takes_one range [] x rest e = absurd cc
    byte_takes_one range (b ∷ bytes) x rest e =
        let w = within_ok (range b) (b, bytes) (x, rest) e in
        let same : bytes ≡ rest = ap (λ (p : ℕ × List ℕ). p.1) w.1 in
        rw same (omega arith)

    byte_waits_one : (range : ℕ → Bool) (bytes : List ℕ) (k : ℕ)
        → byte_at range bytes ≡ Err (Short k)
        → length bytes < 1
    byte_waits_one range [] k e = omega arith
    byte_waits_one range (b ∷ bytes) k e = absurd (within_short (range b) (b, bytes) k e)

-- what is dropped
after : (n : ℕ) (bytes rest : List ℕ) → n ≤ length bytes → drop n bytes ≡ rest → length bytes ≤ n + length rest
after n bytes rest le same = rw (← same) (omega (arith, length-drop n bytes))

-- a reader of a number takes off its width at most
pub within_number : (w : Width) (range : ℕ → Bool) → IsWithin (byte_len w) (number_at w range)
within_number w range = record {
  takes = λ bytes x rest e.
      let c = counted_ok (byte_len w) (judged w range) bytes (x, rest) e in
      let k = within_ok (range (from_be_bytes w (take (byte_len w) bytes)))
      (from_be_bytes w (take (byte_len w) bytes), drop (byte_len w) bytes) (x, rest) c.1 in
      after (byte_len w) bytes rest c.0 (ap (λ (p : ℕ × List ℕ). p.1) k.1);
  waits = λ bytes k e.
      (counted_short (byte_len w) (judged w range) bytes k
      (λ k e. within_short (range (from_be_bytes w (take (byte_len w) bytes)))
      (from_be_bytes w (take (byte_len w) bytes), drop (byte_len w) bytes) k e) e).0;
}

-- what is left after n bytes
behind_cut : (n : ℕ) (bytes x rest : List ℕ) → cut n bytes ≡ Ok (x, rest) → drop n bytes ≡ rest
behind_cut n bytes x rest e =
    let pair : (take n bytes, drop n bytes) ≡ (x, rest) = cc in ap (λ (p : List ℕ × List ℕ). p.1) pair

-- a reader of n bytes takes off n at most
pub within_bytes : (n : ℕ) → IsWithin n (bytes_at n)
within_bytes n = record {
  takes = λ bytes x rest e. let c = counted_ok n (cut n) bytes (x, rest) e in after n bytes rest c.0
      (behind_cut n bytes x rest c.1);
  waits = λ bytes k e. (counted_short n (cut n) bytes k (λ k e. cc) e).0;
}

-- a key's bytes, by what is told of those that are there
abbrev text_judged : ℕ → Bool → List ℕ → Read (List ℕ)
text_judged n all bytes = cond (not all) (Err Malformed) (cond (nat_lt (length bytes) n) (Err (Short 1)) (cut n bytes))

text_takes : (n : ℕ) (bytes x rest : List ℕ) (all : Bool)
    → text_judged n all bytes ≡ Ok (x, rest)
    → length bytes ≤ n + length rest
text_takes n bytes x rest false e = absurd cc
text_takes n bytes x rest true e =
    elim (cases_lt (length bytes) n) [
      | inl lt ↦ let stopped : text_judged n true bytes ≡ Err (Short 1) =
          rw (lt-ltb (length bytes) n lt) refl in absurd cc
      | inr le ↦ after n bytes rest le (behind_cut n bytes x rest (rw (le-ltb (length bytes) n le) at e))
    ]

text_waits : (n : ℕ) (bytes : List ℕ) (k : ℕ) (all : Bool) → text_judged n all bytes ≡ Err (Short k) → length bytes < n
text_waits n bytes k false e = absurd cc
text_waits n bytes k true e =
    elim (cases_lt (length bytes) n) [
      | inl lt ↦ lt
      | inr le ↦ let went : text_judged n true bytes ≡ cut n bytes = rw (le-ltb (length bytes) n le) refl in absurd cc
    ]

-- a reader of n bytes of a key takes off n at most
pub within_text : (n : ℕ) → IsWithin n (text_at n)
within_text n = record {
  takes = λ bytes x rest e. text_takes n bytes x rest (list_all is_key_byte (take n bytes)) e;
  waits = λ bytes k e. text_waits n bytes k (list_all is_key_byte (take n bytes)) e;
}
