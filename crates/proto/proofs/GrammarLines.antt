-- The line at the front of a stream, by its first line feed.
use Rattle.std.proofs.Common.{◌≡◌, ◌≢◌, ℕ, zero, suc, ◌+◌, ◌-◌, ◌<◌, ◌≤◌, ◌⊎◌, inl, inr, Bool, true, false, cond, List}
use Rattle.std.proofs.Common.{[], ◌∷◌, ◌++◌, length, take, get_or, None, Some, refl, ap, sym, ◌∙◌, arith, nat_lt}
use Rattle.std.proofs.Common.{nat_le, length-append, length-take, append_assoc, take_at, get_or-take}
use Rattle.std.specs.Prelude.{◌==◌, ◌&&◌, not, IsTrue, slice_index}
use Rattle.std.specs.List.{list_all, prefix_len, position_or_len}
use Rattle.std.proofs.lemmas.Bool.{and_parts, and_from, eqb-true, not_from_false, leb-true, le-leb, eq-eqb, cond-false}
use Rattle.std.proofs.lemmas.Bool.Decides.{nat_tests}
use Rattle.std.proofs.lemmas.List.{take_more, take_all, get_or_at}
use Rattle.std.proofs.lemmas.List.Quantifiers.{position-Some}
use Rattle.proto.specs.Words.{lf, cr, first_lf, fields_of}
use Rattle.proto.specs.Grammar.{has_no_lf}
use Rattle.proto.specs.declared.requests.Fault.TheVariants.{Command, LineTooLong}
use Rattle.proto.specs.declared.requests.Request.TheVariants.{Bad}
use Rattle.proto.specs.declared.lines.Asked.TheVariants.{Whole}
use Rattle.proto.specs.Requests.{asked_within, by_end, by_line, by_fields}

-- the elements that pass, up to one that doesn't
prefix_up_to : (p : ℕ → Bool) (t : List ℕ) (y : ℕ) (rest : List ℕ)
    → list_all p t ≡ true
    → p y ≡ false
    → prefix_len p (t ++ y ∷ rest) ≡ length t
prefix_up_to p [] y rest all stop = rw stop refl
prefix_up_to p (x ∷ t) y rest all stop =
    let parts = and_parts (p x) (list_all p t) all in
    rw (parts.0, prefix_up_to p t y rest parts.1 stop) (omega arith)

-- all pass, if this many do
all_by_prefix : (p : ℕ → Bool) (t : List ℕ) → length t ≤ prefix_len p t → list_all p t ≡ true
all_by_prefix p [] h = refl
all_by_prefix p (x ∷ t) h = by_head (p x) refl h (λ more. all_by_prefix p t more)
  where
    by_head : (b : Bool)
        → p x ≡ b
        → length (x ∷ t) ≤ cond b (1 + prefix_len p t) 0
        → (length t ≤ prefix_len p t → list_all p t ≡ true)
        → p x && list_all p t ≡ true
    by_head true e more rest = and_from (p x) (list_all p t) e (rest (omega arith))
    by_head false e more rest = absurd (omega arith)

prefix_of_all : (p : ℕ → Bool) (t : List ℕ) → list_all p t ≡ true → prefix_len p t ≡ length t
prefix_of_all p [] all = refl
prefix_of_all p (x ∷ t) all =
    let parts = and_parts (p x) (list_all p t) all in
    rw (parts.0, prefix_of_all p t parts.1) (omega arith)

-- those below an index pass, if each does
all_below : (p : ℕ → Bool) (t : List ℕ) (i : ℕ)
    → i ≤ length t
    → ((k : ℕ) → k < i → p (get_or t k 0) ≡ true)
    → list_all p (take i t) ≡ true
all_below p t zero h each = refl
all_below p [] (suc i) h each = refl
all_below p (x ∷ t) (suc i) h each = and_from (p x) (list_all p (take i t)) (each 0 (omega arith))
    (all_below p t i (omega arith) (λ k below. each (suc k) (omega arith)))

-- the first LF stands after a text without one
first_lf_at : (t rest : List ℕ) → IsTrue (has_no_lf t) → first_lf (t ++ lf ∷ rest) ≡ Some (length t)
first_lf_at t rest none =
    let place : position_or_len (λ b. b == lf) (t ++ lf ∷ rest) ≡ length t =
    prefix_up_to (λ b. not (b == lf)) t lf rest none refl in
    let inside : nat_lt (length t) (length (t ++ lf ∷ rest)) ≡ true =
    grind (arith, nat_tests, length-append t (lf ∷ rest)) in
    rw (place, inside) refl

first_lf_none : (t : List ℕ) → IsTrue (has_no_lf t) → first_lf t ≡ None
first_lf_none t none =
    let place : position_or_len (λ b. b == lf) t ≡ length t = prefix_of_all (λ b. not (b == lf)) t none in
    let past : nat_lt (length t) (length t) ≡ false = grind (arith, nat_tests) in
    rw (place, past) refl

-- if no first LF is, there is none
pub none_by_first_lf : (t : List ℕ) → first_lf t ≡ None → IsTrue (has_no_lf t)
none_by_first_lf t e = by_test (nat_lt (position_or_len (λ b. b == lf) t) (length t)) refl e
  where
    by_test : (b : Bool)
        → nat_lt (position_or_len (λ b. b == lf) t) (length t) ≡ b
        → cond b (Some (position_or_len (λ b. b == lf) t)) None ≡ None
        → IsTrue (has_no_lf t)
    by_test true is none = cc
    by_test false is none = all_by_prefix (λ b. not (b == lf)) t (grind (arith, nat_tests, is))

-- a cut after a list keeps it
take_past : (t more : List ℕ) (most : ℕ) → length t ≤ most → take most (t ++ more) ≡ t ++ take (most - length t) more
take_past [] more most h = let same : most - 0 ≡ most = omega arith in rw same refl
take_past (x ∷ t) more zero h = absurd (omega arith)
take_past (x ∷ t) more (suc most) h = let same : suc most - suc (length t) ≡ most - length t =
    omega arith in rw (same, take_past t more most (omega arith)) refl

-- A text and its LF, if both are within the bytes that a line may have: the line is this one, whatever follows.
pub asked_of_text : (most : ℕ) (t more : List ℕ)
    → IsTrue (has_no_lf t)
    → length t + 1 ≤ most
    → asked_within most ((t ++ lf ∷ []) ++ more) ≡ Some (by_line t, length t + 1)
asked_of_text most t more none fits =
    let regrouped : (t ++ lf ∷ []) ++ more ≡ t ++ lf ∷ more = append_assoc t (lf ∷ []) more in
    let room : most - length t ≡ suc (most - length t - 1) = omega arith in
    let cut : take most (t ++ lf ∷ more) ≡ t ++ lf ∷ take (most - length t - 1) more =
    take_past t (lf ∷ more) most (omega arith) ∙ ap (λ n. t ++ take n (lf ∷ more)) room in
    let place : first_lf (take most (t ++ lf ∷ more)) ≡ Some (length t) =
    ap first_lf cut ∙ first_lf_at t (take (most - length t - 1) more) none in
    let front : take (length t) (t ++ lf ∷ more) ≡ t = take_at t (lf ∷ more) (length t) refl in
    ap (asked_within most) regrouped
    ∙ (ap (by_end most (t ++ lf ∷ more)) place ∙ ap (λ line. Some (by_line line, length t + 1)) front)

-- As many bytes as a line may have, without an LF: the line is too long, whatever follows.
pub asked_of_long : (most : ℕ) (t more : List ℕ)
    → IsTrue (has_no_lf t)
    → length t ≡ most
    → asked_within most (t ++ more) ≡ Some (Whole (Bad LineTooLong), most)
asked_of_long most t more none long =
    let cut : take most (t ++ more) ≡ t = take_at t more most long in
    let place : first_lf (take most (t ++ more)) ≡ None = ap first_lf cut ∙ first_lf_none t none in
    let enough : nat_le most (length (t ++ more)) ≡ true = grind (arith, nat_tests, length-append t more) in
    ap (by_end most (t ++ more)) place ∙ rw enough refl

-- A line of n bytes at the front: a text without LF, and its LF.
pub record FrontLine (most : ℕ) (bytes : List ℕ) (text : List ℕ) (n : ℕ) : Type 0 where
  pub text_is : take n bytes ≡ text ++ lf ∷ []
  pub single : IsTrue (has_no_lf text)
  pub short : n ≤ most
  pub inside : n ≤ length bytes

-- the line up to the first LF
pub line_at_first_lf : (most : ℕ) (bytes : List ℕ) (i : ℕ)
    → first_lf (take most bytes) ≡ Some i
    → FrontLine most bytes (take i bytes) (i + 1)
line_at_first_lf most bytes i e =
    let found = position-Some (λ b. b == lf) (take most bytes) i 0 e in
    let cut : length (take most bytes) ≤ most = omega (arith, length-take most bytes) in
    let below : i < length (take most bytes) = found.0 in
    let inside : i < length bytes = omega (arith, length-take most bytes) in
    let near : i < most = omega arith in
    let is_lf : get_or bytes i 0 ≡ lf =
    eqb-true (get_or bytes i 0) lf (rw (get_or-take most bytes i 0 near) at found.1) in
    let each : (k : ℕ) → k < i → not (get_or bytes k 0 == lf) ≡ true =
    λ k low. let near : k < most =
    omega arith in not_from_false _ (rw (get_or-take most bytes k 0 near) at (found.2 k low)) in
    record {
      text_is = take_more bytes i 0 inside ∙ ap (λ b. take i bytes ++ b ∷ []) is_lf;
      single = all_below (λ b. not (b == lf)) bytes i (omega arith) each;
      short = omega arith;
      inside = omega arith;
    }

-- the test of `by_line`, if a CR stands at the end
cr_at_end : (t : List ℕ)
    → nat_le 1 (length (t ++ cr ∷ [])) && slice_index (t ++ cr ∷ []) (length (t ++ cr ∷ []) - 1) == cr ≡ true
cr_at_end t =
    let count : length (t ++ cr ∷ []) ≡ length t + 1 = length-append t (cr ∷ []) in
    let last : slice_index (t ++ cr ∷ []) (length (t ++ cr ∷ []) - 1) ≡ cr =
    get_or_at t cr [] 0 (length (t ++ cr ∷ []) - 1) (omega arith) in
    and_from _ _ (le-leb 1 (length (t ++ cr ∷ [])) (omega arith)) (eq-eqb _ cr last)

-- a text that ends in CR is judged by the fields before it
pub by_line_cr : (t : List ℕ) → by_line (t ++ cr ∷ []) ≡ by_fields (fields_of t)
by_line_cr t =
    let count : length (t ++ cr ∷ []) - 1 ≡ length t = omega (arith, length-append t (cr ∷ [])) in
    let front : take (length (t ++ cr ∷ []) - 1) (t ++ cr ∷ []) ≡ t = take_at t (cr ∷ []) _ (sym count) in
    rw (cr_at_end t, front) refl

-- a text ends in CR, or asks for nothing known
pub by_cr : (t : List ℕ)
    → ((front : List ℕ) × (t ≡ front ++ cr ∷ []))
    ⊎ (((front : List ℕ) → t ≢ front ++ cr ∷ []) × (by_line t ≡ Whole (Bad Command)))
by_cr t = by_test (nat_le 1 (length t) && slice_index t (length t - 1) == cr) refl
  where
    by_test : (b : Bool)
        → nat_le 1 (length t) && slice_index t (length t - 1) == cr ≡ b
        → ((front : List ℕ) × (t ≡ front ++ cr ∷ []))
        ⊎ (((front : List ℕ) → t ≢ front ++ cr ∷ []) × (by_line t ≡ Whole (Bad Command)))
    by_test true e =
        let parts = and_parts _ _ e in
        let some : 1 ≤ length t = leb-true 1 (length t) parts.0 in
        let last : get_or t (length t - 1) 0 ≡ cr = eqb-true _ cr parts.1 in
        let back : length t - 1 + 1 ≡ length t = omega arith in
        let whole : take (length t - 1 + 1) t ≡ t = take_all (length t - 1 + 1) t (omega arith) in
        inl (
          take (length t - 1) t,
          sym whole ∙ (take_more t (length t - 1) 0 (omega arith)
              ∙ ap (λ b. take (length t - 1) t ++ b ∷ []) last),
        )
    by_test false e =
        inr (
          λ front is. let yes : nat_le 1 (length t) && slice_index t (length t - 1) == cr
              ≡ true = rw is (cr_at_end front) in cc,
          cond-false _ _ _ e,
        )

-- a text that doesn't asks for nothing known
pub by_line_bare : (t : List ℕ) → ((front : List ℕ) → t ≢ front ++ cr ∷ []) → by_line t ≡ Whole (Bad Command)
by_line_bare t bare = elim (by_cr t) [ inl found ↦ absurd (bare found.0 found.1) | inr other ↦ other.1 ]
