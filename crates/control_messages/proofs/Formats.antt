-- Formats: what is read is what the numbers of a value spell. One law for each way of putting values together.
use Rattle.std.proofs.Common.{◌≡◌, ℕ, ◌+◌, ◌<◌, List, [], ◌++◌, get_or, drop, Option, Some, None}
use Rattle.std.proofs.Common.{refl, sym, ap, subst, ◌∙◌}
use Rattle.std.proofs.lemmas.List.{get_or-drop}
use Rattle.control_messages.specs.Spellings.{AreNumbers, spelled}
use Rattle.control_messages.specs.Readings.{Read, ◌>>=◌, both_at, made_at}
use Rattle.control_messages.proofs.Spelled.{AreNumbers-both, AreNumbers-front, AreNumbers-back, regrouped, spelled_none}

-- bytes are below 256
abbrev pub IsBytes : List ℕ → Type 0
IsBytes bytes = (i : ℕ) → get_or bytes i 0 < 256

-- bytes after a front are bytes
pub IsBytes-drop : (n : ℕ) (bytes : List ℕ) → IsBytes bytes → IsBytes (drop n bytes)
IsBytes-drop n bytes h i = rw get_or-drop (h (n + i))

-- the value that was read
abbrev pub done : {A : Type 0} → A → Option A
done x = Some x

pub some_is : {A : Type 0} (x y : A) → done x ≡ done y → x ≡ y
some_is x y e = cc

-- the value of a step that found one
pub bind_some : {A B : Type 0} (r : Option A) (f : A → Option B) (y : B)
    → (r >>= f) ≡ Some y
    → (x : A) × (r ≡ Some x) × (f x ≡ Some y)
bind_some (Some x) f y e = (x, refl, e)
bind_some None f y e = absurd cc

-- the first step's value decides
pub bind_at : {A B : Type 0} (r : Option A) (f : A → Option B) (x : A) (y : Option B)
    → r ≡ Some x
    → f x ≡ y
    → (r >>= f) ≡ y
bind_at r f x y e h = ap (λ r. r >>= f) e ∙ h

-- from these bytes these numbers were read, each of which fits, with this said of them
pub record Takes (numbers : List ℕ) (Fits : Type 0) (bytes rest : List ℕ) : Type 0 where
  pub parts : bytes ≡ spelled numbers ++ rest
  pub rest_fits : IsBytes rest
  pub each : AreNumbers numbers
  pub fits : Fits

-- no number at all
pub Takes-none : (F : Type 0) (bytes : List ℕ) → F → IsBytes bytes → Takes [] F bytes bytes
Takes-none F bytes h fits = record {
  parts = ap (λ (front : List ℕ). front ++ bytes) (sym spelled_none);
  rest_fits = fits;
  each = tt;
  fits = h;
}

-- numbers, and then others
pub Takes-then : (front back : List ℕ) (F G : Type 0) (bytes middle rest : List ℕ)
    → Takes front F bytes middle
    → Takes back G middle rest
    → Takes (front ++ back) (F × G) bytes rest
Takes-then front back F G bytes middle rest first second = record {
  parts = first.parts ∙ ap (λ (t : List ℕ). spelled front ++ t) second.parts ∙ sym (regrouped front back rest);
  rest_fits = second.rest_fits;
  each = AreNumbers-both front back first.each second.each;
  fits = (first.fits, second.fits);
}

-- the same numbers, with something else said
pub Takes-as : (numbers others : List ℕ) (F G : Type 0) (bytes rest : List ℕ)
    → numbers ≡ others
    → (F → G)
    → Takes numbers F bytes rest
    → Takes others G bytes rest
Takes-as numbers others F G bytes rest same says t = record {
  parts = t.parts ∙ ap (λ (ns : List ℕ). spelled ns ++ rest) same;
  rest_fits = t.rest_fits;
  each = subst AreNumbers same t.each;
  fits = says t.fits;
}

-- what is read was spelled, and what was spelled is read
pub record IsFormat {A : Type 0} (read : List ℕ → Read A) (numbers : A → List ℕ) (Fits : A → Type 0) : Type 0 where
  pub takes : (bytes : List ℕ) (x : A) (rest : List ℕ)
      → IsBytes bytes
      → read bytes ≡ Some (x, rest)
      → Takes (numbers x) (Fits x) bytes rest
  pub again : (x : A) (rest : List ℕ)
      → AreNumbers (numbers x)
      → Fits x
      → read (spelled (numbers x) ++ rest) ≡ Some (x, rest)

-- nothing is read
pub nothing : IsFormat (λ bytes. Some (tt, bytes)) (λ (x : Unit {0}). []) (λ x. Unit {0})
nothing = record {
  takes = λ bytes x rest fits e.
      subst (λ (y : Unit {0} × List ℕ). Takes [] (Unit {0}) bytes y.1) (some_is (tt, bytes) (x, rest) e)
      (Takes-none (Unit {0}) bytes tt fits);
  again = λ x rest each fits. ap (λ (front : List ℕ). Some (tt, front ++ rest)) spelled_none;
}

-- one value and then another
pub both : {A B : Type 0} (r : List ℕ → Read A) (front : A → List ℕ) (F : A → Type 0)
    (s : List ℕ → Read B) (back : B → List ℕ) (G : B → Type 0)
    → IsFormat r front F
    → IsFormat s back G
    → IsFormat (both_at r s) (λ p. front p.0 ++ back p.1) (λ p. F p.0 × G p.1)
both {A = A} {B = B} r front F s back G first second = record {
  takes = λ bytes p rest fits e.
      let a = bind_some (r bytes) (λ x. s x.1 >>= λ y. Some ((x.0, y.0), y.1)) (p, rest) e in
      let b = bind_some (s a.0.1) (λ y. Some ((a.0.0, y.0), y.1)) (p, rest) a.2 in
      let t = first.takes bytes a.0.0 a.0.1 fits a.1 in
      let u = second.takes a.0.1 b.0.0 b.0.1 t.rest_fits b.1 in
      let read : (A × B) × List ℕ = ((a.0.0, b.0.0), b.0.1) in
      subst (λ (y : (A × B) × List ℕ). Takes (front y.0.0 ++ back y.0.1) (F y.0.0 × G y.0.1) bytes y.1)
      (some_is read (p, rest) b.2)
      (Takes-then (front a.0.0) (back b.0.0) (F a.0.0) (G b.0.0) bytes a.0.1 b.0.1 t u);
  again = λ p rest each fits.
      let tail = spelled (back p.1) ++ rest in
      ap (both_at r s) (regrouped (front p.0) (back p.1) rest)
      ∙ bind_at (r (spelled (front p.0) ++ tail)) (λ x. s x.1 >>= λ y. Some ((x.0, y.0), y.1)) (p.0, tail)
      (Some (p, rest))
      (first.again p.0 tail (AreNumbers-front (front p.0) (back p.1) each) fits.0)
      (bind_at (s tail) (λ y. Some ((p.0, y.0), y.1)) (p.1, rest) (Some (p, rest))
      (second.again p.1 rest (AreNumbers-back (front p.0) (back p.1) each) fits.1) refl);
}

-- what is made of a value was spelled as that
pub made_takes : {A B : Type 0} (r : List ℕ → Read A) (front : A → List ℕ) (F : A → Type 0)
    (make : A → B) (numbers : B → List ℕ) (G : B → Type 0) (bytes : List ℕ) (y : B) (rest : List ℕ)
    → IsFormat r front F
    → ((x : A) → front x ≡ numbers (make x))
    → ((x : A) → F x → G (make x))
    → IsBytes bytes
    → made_at make r bytes ≡ Some (y, rest)
    → Takes (numbers y) (G y) bytes rest
made_takes {A = A} {B = B} r front F make numbers G bytes y rest format are says fits e =
    let a = bind_some (r bytes) (λ x. Some (make x.0, x.1)) (y, rest) e in
    let t = format.takes bytes a.0.0 a.0.1 fits a.1 in
    let read : B × List ℕ = (make a.0.0, a.0.1) in
    subst (λ (z : B × List ℕ). Takes (numbers z.0) (G z.0) bytes z.1) (some_is read (y, rest) a.2)
    (Takes-as (front a.0.0) (numbers (make a.0.0)) (F a.0.0) (G (make a.0.0)) bytes a.0.1 (are a.0.0) (says a.0.0) t)

-- what was spelled as a value is read as what is made of it
pub made_again : {A B : Type 0} (r : List ℕ → Read A) (front : A → List ℕ) (F : A → Type 0)
    (make : A → B) (x : A) (rest : List ℕ)
    → IsFormat r front F
    → AreNumbers (front x)
    → F x
    → made_at make r (spelled (front x) ++ rest) ≡ Some (make x, rest)
made_again r front F make x rest format each fits =
    bind_at (r (spelled (front x) ++ rest)) (λ x. Some (make x.0, x.1)) (x, rest) (Some (make x, rest))
    (format.again x rest each fits) refl

-- a value made of another one, whose parts give that one back
pub made : {A B : Type 0} (r : List ℕ → Read A) (front : A → List ℕ) (F : A → Type 0)
    (make : A → B) (parts : B → A) (numbers : B → List ℕ) (G : B → Type 0)
    → IsFormat r front F
    → ((x : A) → front x ≡ numbers (make x))
    → ((y : B) → make (parts y) ≡ y)
    → ((x : A) → F x → G (make x))
    → ((y : B) → G y → F (parts y))
    → IsFormat (made_at make r) numbers G
made {A = A} {B = B} r front F make parts numbers G format are back says fits_back = record {
  takes = λ bytes y rest fits e. made_takes r front F make numbers G bytes y rest format are says fits e;
  again = λ y rest each fits.
      let same : numbers y ≡ front (parts y) = ap numbers (sym (back y)) ∙ sym (are (parts y)) in
      ap (λ (ns : List ℕ). made_at make r (spelled ns ++ rest)) same
      ∙ made_again r front F make (parts y) rest format (subst AreNumbers same each) (fits_back y fits)
      ∙ ap (λ (z : B). Some (z, rest)) (back y);
}
