-- A text that is read byte by byte.
use Rattle.std.proofs.Common.{◌≡◌, ℕ, zero, suc, ◌<◌, List, [], ◌∷◌, ◌++◌, length, Option, None, Some, option_map}
use Rattle.std.proofs.Common.{option_and_then, refl, ap, sym, arith, append_assoc, append-nil}
use Rattle.schedules.specs.Escapes.{front_byte, unescape_upto}

-- the bytes so far, and those of what is left
abbrev pub read_on : List ℕ → ℕ → List ℕ → Option (List ℕ)
read_on bytes room rest = option_map (λ more. bytes ++ more) (unescape_upto room rest)

-- a byte in front
abbrev onto : ℕ → Option (List ℕ) → Option (List ℕ)
onto b o = option_and_then (λ more. Some (b ∷ more)) o

-- the byte at the front of a text in front of what the text after it spells
abbrev by_byte : ℕ → Option (ℕ × List ℕ) → Option (List ℕ)
by_byte n o = option_and_then (λ front. onto front.0 (unescape_upto n front.1)) o

joined : (bytes : List ℕ) (b : ℕ) (o : Option (List ℕ))
    → option_map (λ more. bytes ++ more) (onto b o) ≡ option_map (λ more. (bytes ++ b ∷ []) ++ more) o
joined bytes b None = refl
joined bytes b (Some more) = simp append_assoc

by_front : (o : Option (ℕ × List ℕ)) (bytes : List ℕ) (n : ℕ) (b : ℕ) (later : List ℕ)
    → Some (b, later) ≡ o
    → option_map (λ more. bytes ++ more) (by_byte n o) ≡ read_on (bytes ++ b ∷ []) n later
by_front o bytes n b later is = rw (← is) (joined bytes b (unescape_upto n later))

-- one more byte
pub read_on-front : (bytes : List ℕ) (room next : ℕ) (rest : List ℕ) (b : ℕ) (later : List ℕ)
    → room ≡ suc next
    → 0 < length rest
    → Some (b, later) ≡ front_byte rest
    → read_on bytes room rest ≡ read_on (bytes ++ b ∷ []) next later
read_on-front bytes room next [] b later is some front = absurd (omega arith)
read_on-front bytes room next (x ∷ xs) b later is some front =
    rw is (by_front (front_byte (x ∷ xs)) bytes next b later front)

no_front : (o : Option (ℕ × List ℕ)) (bytes : List ℕ) (n : ℕ)
    → None ≡ o
    → None ≡ option_map (λ more. bytes ++ more) (by_byte n o)
no_front o bytes n is = rw (← is) refl

-- what spells no byte
pub read_on-none : (bytes : List ℕ) (room next : ℕ) (rest : List ℕ)
    → room ≡ suc next
    → 0 < length rest
    → None ≡ front_byte rest
    → None ≡ read_on bytes room rest
read_on-none bytes room next [] is some front = absurd (omega arith)
read_on-none bytes room next (x ∷ xs) is some front = rw is (no_front (front_byte (x ∷ xs)) bytes next front)

-- the end of a text
pub read_on-end : (bytes : List ℕ) (room : ℕ) (rest : List ℕ) → length rest ≡ 0 → Some bytes ≡ read_on bytes room rest
read_on-end bytes zero [] empty = ap Some (sym (append-nil bytes))
read_on-end bytes (suc n) [] empty = ap Some (sym (append-nil bytes))
read_on-end bytes room (x ∷ xs) empty = absurd (omega arith)
