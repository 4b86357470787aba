-- Numbers by themselves.
use Rattle.std.proofs.Common.{◌≡◌, ℕ, zero, suc, ◌^◌, ◌<◌, ◌≤◌, Bool, true, false, cond, ltb, eqb, List, [], ◌∷◌}
use Rattle.std.proofs.Common.{◌++◌, length, take, drop, Option, Some, None, refl, sym, ap, subst, ◌∙◌, arith}
use Rattle.std.proofs.Common.{inl, inr}
use Rattle.std.specs.Int.{w64, from_be_bytes}
use Rattle.std.proofs.lemmas.Bool.{cases_lt, lt-ltb, ltb-true, ltb-false, le-ltb}
use Rattle.std.proofs.lemmas.Option.{cond_some}
use Rattle.std.proofs.lemmas.List.{take_at, drop_at, take-append-drop, length-append, length-take, get_or-take}
use Rattle.std.proofs.lemmas.List.{get_or_past}
use Rattle.std.proofs.lemmas.Nat.{be_bytes_8, from_be_bytes-to_be_bytes_8}
use Rattle.control_messages.specs.Spellings.{AreNumbers, HasMembers, alone, eight_bytes, flag, optional, spelled}
use Rattle.control_messages.specs.Readings.{Read, ◌>>=◌, number_at, narrow_at, flag_at, flag_of_at, optional_at}
use Rattle.control_messages.specs.Readings.{optional_of_at, several_at, members_at}
use Rattle.control_messages.proofs.Spelled.{spelled_none, spelled_one}
use Rattle.control_messages.proofs.Formats.{IsBytes, IsBytes-drop, IsFormat, Takes, Takes-none, Takes-then, Takes-as}
use Rattle.control_messages.proofs.Formats.{bind_some, bind_at, some_is, nothing, made, made_again}
use Rattle.control_messages.proofs.Choices.{IsNumber, guard_some, chosen, picked, tag_again}

IsBytes-take : (n : ℕ) (bytes : List ℕ) → IsBytes bytes → IsBytes (take n bytes)
IsBytes-take n bytes h i =
    elim (cases_lt i n) [
      | inl lt ↦ rw (get_or-take n bytes i 0 lt) (h i)
      | inr le ↦ rw (get_or_past (take n bytes) i 0 (omega (arith, length-take n bytes))) (omega arith)
    ]

-- what eight bytes spell fits
below : (bytes : List ℕ) → IsBytes bytes → from_be_bytes w64 bytes < 2 ^ 64
below bytes fits = omega (arith, fits 0, fits 1, fits 2, fits 3, fits 4, fits 5, fits 6, fits 7)

number_takes : (bytes : List ℕ) (n : ℕ) (rest : List ℕ)
    → IsBytes bytes
    → number_at bytes ≡ Some (n, rest)
    → Takes (alone n) (Unit {0}) bytes rest
unfolding number_at
number_takes bytes n rest fits e =
    let g = guard_some (ltb (length bytes) 8) (from_be_bytes w64 (take 8 bytes), drop 8 bytes) (n, rest) e in
    let long : 8 ≤ length bytes = ltb-false _ _ g.0 in
    let is : from_be_bytes w64 (take 8 bytes) ≡ n = ap (λ (p : ℕ × List ℕ). p.0) g.1 in
    let after : drop 8 bytes ≡ rest = ap (λ (p : ℕ × List ℕ). p.1) g.1 in
    let front_fits = IsBytes-take 8 bytes fits in
    let eight : length (take 8 bytes) ≡ 8 = omega (arith, length-take 8 bytes) in
    let front : eight_bytes (from_be_bytes w64 (take 8 bytes)) ≡ take 8 bytes =
    be_bytes_8 (take 8 bytes) _ eight front_fits refl in
    let same : bytes ≡ spelled (alone n) ++ rest =
    sym (take-append-drop 8 bytes) ∙ ap (λ (t : List ℕ). t ++ drop 8 bytes) (sym front)
    ∙ ap (λ (k : ℕ). eight_bytes k ++ drop 8 bytes) is ∙ ap (λ (t : List ℕ). eight_bytes n ++ t) after
    ∙ ap (λ (t : List ℕ). t ++ rest) (sym (spelled_one n)) in
    record {
      parts = same;
      rest_fits = subst IsBytes after (IsBytes-drop 8 bytes fits);
      each = (subst (λ (k : ℕ). k < 2 ^ 64) is (below (take 8 bytes) front_fits), tt);
      fits = tt;
    }

-- eight bytes at the front are read
read_front : (text rest : List ℕ) → length text ≡ 8 → number_at (text ++ rest) ≡ Some (from_be_bytes w64 text, rest)
unfolding number_at
read_front text rest len =
    let long : ltb (length (text ++ rest)) 8 ≡ false = le-ltb _ _ (omega (arith, length-append text rest)) in
    rw (long, take_at text rest 8 len, drop_at text rest 8 len) refl

number_again : (n : ℕ) (rest : List ℕ) → n < 2 ^ 64 → number_at (eight_bytes n ++ rest) ≡ Some (n, rest)
number_again n rest lt =
    read_front (eight_bytes n) rest refl ∙ ap (λ (k : ℕ). Some (k, rest)) (from_be_bytes-to_be_bytes_8 n lt)

-- a number
pub number : IsNumber
number = record {
  takes = number_takes;
  again = λ n rest each fits.
      ap (λ (t : List ℕ). number_at (t ++ rest)) (spelled_one n) ∙ number_again n rest each.0;
}

-- a number below a limit
pub narrow : (limit : ℕ) → IsFormat (narrow_at limit) alone (λ n. n < limit)
unfolding narrow_at
narrow limit = record {
  takes = λ bytes n rest fits e.
      let a = bind_some (number_at bytes) (λ n. cond (ltb n.0 limit) (Some n) None) (n, rest) e in
      let g = cond_some (ltb a.0.0 limit) a.0 (n, rest) a.2 in
      let t = number.takes bytes a.0.0 a.0.1 fits a.1 in
      subst (λ (y : ℕ × List ℕ). Takes (alone y.0) (y.0 < limit) bytes y.1) g.1
      (Takes-as (alone a.0.0) (alone a.0.0) (Unit {0}) (a.0.0 < limit) bytes a.0.1 refl
      (λ u. ltb-true a.0.0 limit g.0) t);
  again = λ n rest each fits.
      bind_at (number_at (spelled (alone n) ++ rest)) (λ n. cond (ltb n.0 limit) (Some n) None) (n, rest)
      (Some (n, rest)) (number.again n rest each tt)
      (ap (λ b. cond b (Some (n, rest)) None) (lt-ltb n limit fits));
}

-- ---- a flag

flag_takes : (n : ℕ) (bytes after : List ℕ) (x : Bool) (rest : List ℕ)
    → Takes (alone n) (Unit {0}) bytes after
    → flag_of_at n after ≡ Some (x, rest)
    → Takes (alone (flag x)) (Unit {0}) bytes rest
unfolding flag_of_at
flag_takes n bytes after x rest t e =
    let pick = λ (make : Unit {0} → Bool) (k : ℕ) (are : (u : Unit {0}) → k ∷ [] ≡ alone (flag (make u))).
    picked (λ bytes. Some (tt, bytes)) (λ u. []) (λ u. Unit {0}) make (λ b. alone (flag b)) (λ b. Unit {0}) n k
    bytes after x rest nothing are (λ u h. tt) t in
    elim (chosen (eqb n 0) _ _ _ e) [
      | inl clear ↦ pick (λ u. false) 0 (λ u. refl) clear.0 clear.1
      | inr other ↦ elim (chosen (eqb n 1) _ _ _ other.1) [
        | inl set ↦ pick (λ u. true) 1 (λ u. refl) set.0 set.1
        | inr none ↦ absurd cc
      ]
    ]

flag_again : (x : Bool) (rest : List ℕ)
    → AreNumbers (alone (flag x))
    → flag_at (spelled (alone (flag x)) ++ rest) ≡ Some (x, rest)
unfolding flag_at flag_of_at
flag_again false rest each =
    tag_again number flag_of_at 0 [] rest false each (ap (λ (t : List ℕ). Some (false, t ++ rest)) spelled_none)
flag_again true rest each =
    tag_again number flag_of_at 1 [] rest true each (ap (λ (t : List ℕ). Some (true, t ++ rest)) spelled_none)

-- 0 or 1
pub a_flag : IsFormat flag_at (λ x. alone (flag x)) (λ x. Unit {0})
unfolding flag_at
a_flag = record {
  takes = λ bytes x rest fits e.
      let a = bind_some (number_at bytes) (λ n. flag_of_at n.0 n.1) (x, rest) e in
      flag_takes a.0.0 bytes a.0.1 x rest (number.takes bytes a.0.0 a.0.1 fits a.1) a.2;
  again = λ x rest each fits. flag_again x rest each;
}

-- ---- what may be there

-- what is said of it, if it is there
abbrev pub OfSome : {A : Type 0} → (A → Type 0) → Option A → Type 0
OfSome F None = Unit {0}
OfSome F (Some x) = F x

optional_takes : {A : Type 0} (r : List ℕ → Read A) (front : A → List ℕ) (F : A → Type 0) (n : ℕ)
    (bytes after : List ℕ) (x : Option A) (rest : List ℕ)
    → IsFormat r front F
    → Takes (alone n) (Unit {0}) bytes after
    → optional_of_at r n after ≡ Some (x, rest)
    → Takes (optional front x) (OfSome F x) bytes rest
optional_takes {A = A} r front F n bytes after x rest format t e =
    elim (chosen (eqb n 0) _ _ _ e) [
      | inl clear ↦ picked (λ bytes. Some (tt, bytes)) (λ u. []) (λ u. Unit {0}) (λ u. None) (optional front)
          (OfSome F) n 0 bytes after x rest nothing (λ u. refl) (λ u h. tt) t clear.0 clear.1
      | inr other ↦ elim (chosen (eqb n 1) _ _ _ other.1) [
        | inl set ↦ picked r front F (λ x. Some x) (optional front) (OfSome F) n 1 bytes after x rest format
            (λ x. refl) (λ x h. h) t set.0 set.1
        | inr none ↦ absurd cc
      ]
    ]

optional_again : {A : Type 0} (r : List ℕ → Read A) (front : A → List ℕ) (F : A → Type 0) (x : Option A)
    (rest : List ℕ)
    → IsFormat r front F
    → AreNumbers (optional front x)
    → OfSome F x
    → optional_at r (spelled (optional front x) ++ rest) ≡ Some (x, rest)
optional_again r front F None rest format each fits =
    tag_again number (optional_of_at r) 0 [] rest None each
    (ap (λ (t : List ℕ). Some (None, t ++ rest)) spelled_none)
optional_again r front F (Some x) rest format each fits =
    tag_again number (optional_of_at r) 1 (front x) rest (Some x) each
    (made_again r front F (λ x. Some x) x rest format each.1 fits)

-- 0, or 1 and a value
pub maybe : {A : Type 0} (r : List ℕ → Read A) (front : A → List ℕ) (F : A → Type 0)
    → IsFormat r front F
    → IsFormat (optional_at r) (optional front) (OfSome F)
maybe r front F format = record {
  takes = λ bytes x rest fits e.
      let a = bind_some (number_at bytes) (λ n. optional_of_at r n.0 n.1) (x, rest) e in
      optional_takes r front F a.0.0 bytes a.0.1 x rest format (number.takes bytes a.0.0 a.0.1 fits a.1) a.2;
  again = λ x rest each fits. optional_again r front F x rest format each fits;
}

-- ---- members

-- there are so many
abbrev Counts : ℕ → List ℕ → Type 0
Counts count numbers = length numbers ≡ count

several_takes : (count : ℕ) (bytes numbers rest : List ℕ)
    → IsBytes bytes
    → several_at count bytes ≡ Some (numbers, rest)
    → Takes numbers (Counts count numbers) bytes rest
unfolding several_at
several_takes zero bytes numbers rest fits e =
    subst (λ (y : List ℕ × List ℕ). Takes y.0 (Counts 0 y.0) bytes y.1) (some_is ([], bytes) (numbers, rest) e)
    (Takes-none (Counts 0 []) bytes refl fits)
several_takes (suc count) bytes numbers rest fits e =
    let a = bind_some (number_at bytes) (λ n. several_at count n.1 >>= λ others. Some (n.0 ∷ others.0, others.1))
    (numbers, rest) e in
    let b = bind_some (several_at count a.0.1) (λ others. Some (a.0.0 ∷ others.0, others.1)) (numbers, rest) a.2 in
    let t = number.takes bytes a.0.0 a.0.1 fits a.1 in
    let u = several_takes count a.0.1 b.0.0 b.0.1 t.rest_fits b.1 in
    let both = Takes-then (alone a.0.0) b.0.0 (Unit {0}) (Counts count b.0.0) bytes a.0.1 b.0.1 t u in
    let all = Takes-as (a.0.0 ∷ b.0.0) (a.0.0 ∷ b.0.0) (Unit {0} × Counts count b.0.0)
    (Counts (suc count) (a.0.0 ∷ b.0.0)) bytes b.0.1 refl (λ h. ap suc h.1) both in
    let read : List ℕ × List ℕ = (a.0.0 ∷ b.0.0, b.0.1) in
    subst (λ (y : List ℕ × List ℕ). Takes y.0 (Counts (suc count) y.0) bytes y.1)
    (some_is read (numbers, rest) b.2) all

several_again : (numbers rest : List ℕ)
    → AreNumbers numbers
    → several_at (length numbers) (spelled numbers ++ rest) ≡ Some (numbers, rest)
unfolding several_at
several_again [] rest each = ap (λ (t : List ℕ). Some ([], t ++ rest)) spelled_none
several_again (n ∷ numbers) rest each =
    tag_again number (λ n bytes. several_at (length numbers) bytes >>= λ others. Some (n ∷ others.0, others.1)) n
    numbers rest (n ∷ numbers) each
    (bind_at (several_at (length numbers) (spelled numbers ++ rest)) (λ others. Some (n ∷ others.0, others.1))
    (numbers, rest) (Some (n ∷ numbers, rest)) (several_again numbers rest each.1) refl)

-- so many numbers
pub several : (count : ℕ) → IsFormat (several_at count) (λ ns. ns) (Counts count)
several count = record {
  takes = several_takes count;
  again = λ ns rest each fits.
      subst (λ (k : ℕ). several_at k (spelled ns ++ rest) ≡ Some (ns, rest)) fits (several_again ns rest each);
}

-- sixteen processes
pub members : IsFormat members_at (λ m. m.processes) HasMembers
unfolding members_at
members =
    made (several_at 16) (λ ns. ns) (Counts 16) (λ ns. record { processes = ns }) (λ m. m.processes)
    (λ m. m.processes) HasMembers (several 16) (λ x. refl) (λ y. refl) (λ x h. h) (λ y h. h)
