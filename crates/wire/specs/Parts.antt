-- Parts of a format: what spells a value of each, and at which fronts a field is out of its range.
-- Fields are judged in order, each as soon as all its bytes are there; each byte of a key is a field by itself (this
-- project's rule).
use Rattle.std.specs.Prelude.{◌≡◌, ◌⊎◌, ℕ, zero, suc, ◌*◌, ◌<◌, ◌^◌, Bool, true, false, List, [], ◌∷◌, ◌++◌, length}
use Rattle.std.specs.Int.{Width, byte_len, to_be_bytes}

-- A part of the format, with values of this type: which bytes spell a value that is in range,
-- and which bytes begin with fields in range and then a whole field that isn't.
pub record Part (A : Type 0) : Type 1 where
  pub Spells : A → List ℕ → Type 0
  pub Bad : List ℕ → Type 0

-- one part and then another, which may depend on the first one's value
abbrev pub followed : {A B : Type 0} → Part A → (A → Part B) → Part B
followed {A = A} {B = B} first second = record {
  Spells = λ y bytes. (x : A) × (front back : List ℕ) × first.Spells x front × (second x).Spells y back
      × (bytes ≡ front ++ back);
  Bad = λ bytes. first.Bad bytes
      ⊎ ((x : A) × (front rest : List ℕ) × first.Spells x front × (bytes ≡ front ++ rest) × (second x).Bad rest);
}

infixl 10 ◌>>=◌
-- the same between its two parts
abbrev pub ◌>>=◌ : {A B : Type 0} → Part A → (A → Part B) → Part B
first >>= second = followed first second

-- nothing more: all that was read makes this value
abbrev pub makes : {A : Type 0} → A → Part A
makes value = record { Spells = λ y bytes. (y ≡ value) × (bytes ≡ []); Bad = λ bytes. ⊥ }

-- no value: what stood before is out of its range
abbrev pub refused : {A : Type 0} → Part A
refused = record { Spells = λ y bytes. ⊥; Bad = λ bytes. Unit {0} }

-- one of two parts, by a test
abbrev pub either : {A : Type 0} → Bool → Part A → Part A → Part A
either true first second = first
either false first second = second

-- a byte in a range
abbrev pub byte : (ℕ → Bool) → Part ℕ
byte range = record {
  Spells = λ n bytes. (range n ≡ true) × (bytes ≡ n ∷ []);
  Bad = λ bytes. (n : ℕ) × (rest : List ℕ) × (bytes ≡ n ∷ rest) × (range n ≡ false);
}

-- a number of several bytes in a range
abbrev pub number : Width → (ℕ → Bool) → Part ℕ
number w range = record {
  Spells = λ n bytes. (n < 2 ^ (8 * byte_len w)) × (range n ≡ true) × (bytes ≡ to_be_bytes w n);
  Bad = λ bytes. (n : ℕ) × (rest : List ℕ) × (n < 2 ^ (8 * byte_len w)) × (bytes ≡ to_be_bytes w n ++ rest)
      × (range n ≡ false);
}

-- any n bytes
abbrev pub bytes_of : ℕ → Part (List ℕ)
bytes_of n = record { Spells = λ x bytes. (length x ≡ n) × (bytes ≡ x); Bad = λ bytes. ⊥ }

-- n bytes, each in a range
abbrev pub text_of : (ℕ → Bool) → ℕ → Part (List ℕ)
text_of range zero = makes []
text_of range (suc n) = byte range >>= λ b. text_of range n >>= λ bs. makes (b ∷ bs)
