-- Values of several kinds: the first number says which.
use Rattle.std.proofs.Common.{◌≡◌, ◌⊎◌, ℕ, Bool, true, false, cond, eqb, List, ◌∷◌, ◌++◌, Some, None}
use Rattle.std.proofs.Common.{refl, ap, subst, ◌∙◌, inl, inr}
use Rattle.std.proofs.lemmas.Bool.{eqb-true}
use Rattle.control_messages.specs.Spellings.{AreNumbers, alone, spelled}
use Rattle.control_messages.specs.Readings.{Read, ◌>>=◌, number_at, made_at}
use Rattle.control_messages.proofs.Spelled.{regrouped}
use Rattle.control_messages.proofs.Formats.{IsFormat, Takes, Takes-then, Takes-as, bind_some, bind_at, some_is}

-- a number is read as its eight bytes
abbrev pub IsNumber : Type 0
IsNumber = IsFormat number_at alone (λ n. Unit {0})

-- a test that didn't stop the reading
pub guard_some : {A : Type 0} (b : Bool) (x y : A) → cond b None (Some x) ≡ Some y → (b ≡ false) × (x ≡ y)
guard_some true x y e = absurd cc
guard_some false x y e = (refl, cc)

-- which way a test went
pub chosen : {A : Type 0} (b : Bool) (x y z : A)
    → cond b x y ≡ z
    → ((b ≡ true) × (x ≡ z)) ⊎ ((b ≡ false) × (y ≡ z))
chosen true x y z e = inl (refl, e)
chosen false x y z e = inr (refl, e)

-- a value of this kind
pub picked : {A C : Type 0} (r : List ℕ → Read A) (front : A → List ℕ) (F : A → Type 0) (make : A → C)
    (numbers : C → List ℕ) (G : C → Type 0) (n k : ℕ) (bytes after : List ℕ) (c : C) (rest : List ℕ)
    → IsFormat r front F
    → ((x : A) → k ∷ front x ≡ numbers (make x))
    → ((x : A) → F x → G (make x))
    → Takes (alone n) (Unit {0}) bytes after
    → eqb n k ≡ true
    → made_at make r after ≡ Some (c, rest)
    → Takes (numbers c) (G c) bytes rest
picked {A = A} {C = C} r front F make numbers G n k bytes after c rest format are says t is e =
    let kind : Takes (alone k) (Unit {0}) bytes after =
    subst (λ (i : ℕ). Takes (alone i) (Unit {0}) bytes after) (eqb-true n k is) t in
    let a = bind_some (r after) (λ x. Some (make x.0, x.1)) (c, rest) e in
    let u = format.takes after a.0.0 a.0.1 t.rest_fits a.1 in
    let both = Takes-then (alone k) (front a.0.0) (Unit {0}) (F a.0.0) bytes after a.0.1 kind u in
    let read : C × List ℕ = (make a.0.0, a.0.1) in
    subst (λ (z : C × List ℕ). Takes (numbers z.0) (G z.0) bytes z.1) (some_is read (c, rest) a.2)
    (Takes-as (k ∷ front a.0.0) (numbers (make a.0.0)) (Unit {0} × F a.0.0) (G (make a.0.0)) bytes a.0.1 (are a.0.0)
    (λ h. says a.0.0 h.1) both)

-- what was spelled after a kind is read as of that kind
pub tag_again : {C : Type 0} → IsNumber
    → (f : ℕ → List ℕ → Read C) (k : ℕ) (numbers rest : List ℕ) (c : C)
    → AreNumbers (k ∷ numbers)
    → f k (spelled numbers ++ rest) ≡ Some (c, rest)
    → (number_at (spelled (k ∷ numbers) ++ rest) >>= λ n. f n.0 n.1) ≡ Some (c, rest)
tag_again number f k numbers rest c each h =
    ap (λ (t : List ℕ). number_at t >>= λ n. f n.0 n.1) (regrouped (alone k) numbers rest)
    ∙ bind_at (number_at (spelled (alone k) ++ (spelled numbers ++ rest))) (λ n. f n.0 n.1)
    (k, spelled numbers ++ rest) (Some (c, rest)) (number.again k (spelled numbers ++ rest) (each.0, tt) tt) h
