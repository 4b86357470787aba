-- Lines that count and are as stated, and the first line of some that is not.
use Rattle.std.proofs.Common.{◌≡◌, ℕ, ◌+◌, true, false, List, [], ◌∷◌, ◌++◌, length, Some, refl, ap, sym, ◌∙◌, arith}
use Rattle.std.proofs.Common.{append_assoc, append-nil, length-append}
use Rattle.std.specs.Prelude.{Result, Err, not}
use Rattle.std.specs.Result.{result_err}
use Rattle.std.proofs.lemmas.Option.{same_Some}
use Rattle.std.proofs.lemmas.List.Elements.{filter-append}
use Rattle.schedules.specs.declared.event_lines.EventLine.{EventLine}
use Rattle.schedules.specs.Splits.{is_passed_over}
use Rattle.schedules.specs.SpelledSchedules.{counted_lines, IsEventLine, AreEventLines, AreAsStated, IsBadNext}

-- Line n of these is the first that is not as stated.
pub record IsFirstOf (all : List (List ℕ)) (n : ℕ) : Type 0 where
  pub before : List (List ℕ)
  pub others : List (List ℕ)
  pub split : all ≡ before ++ others
  pub number : n ≡ length before + 1
  pub as_stated : AreAsStated (counted_lines before)
  pub bad : IsBadNext before others

-- a fault names one line
pub same_Err : {X : Type 0} (m n : ℕ) → ◌≡◌ {A = Result X ℕ} (Err m) (Err n) → m ≡ n
same_Err {X} m n e = let some : Some m ≡ Some n = ap (λ (r : Result X ℕ). result_err r) e in same_Some m n some

-- a line more: it counts, or it is passed over
pub one_counts : (front : List (List ℕ)) (line : List ℕ)
    → is_passed_over line ≡ false
    → counted_lines (front ++ line ∷ []) ≡ counted_lines front ++ line ∷ []
one_counts front line counts = filter-append (λ l. not (is_passed_over l)) front (line ∷ []) ∙ rw counts refl

-- a line that is passed over adds none to those that count
pub one_passed : (front : List (List ℕ)) (line : List ℕ)
    → is_passed_over line ≡ true
    → counted_lines (front ++ line ∷ []) ≡ counted_lines front
one_passed front line passed =
    filter-append (λ l. not (is_passed_over l)) front (line ∷ []) ∙ (rw passed (append-nil (counted_lines front)))

-- the number of the line after one more is one more
pub one_longer : (front : List (List ℕ)) (line : List ℕ) (m : ℕ)
    → m ≡ length front + 1
    → m + 1 ≡ length (front ++ line ∷ []) + 1
one_longer front line m is = omega (arith, length-append front (line ∷ []))

-- a line is taken from the front of those to come to the end of those before
pub regrouped : (all front later : List (List ℕ)) (line : List ℕ)
    → all ≡ front ++ line ∷ later
    → all ≡ (front ++ line ∷ []) ++ later
regrouped all front later line is = is ∙ sym (append_assoc front (line ∷ []) later)

-- lines of events with one more, and the last of them
pub are_more : (said : List EventLine) (ls : List (List ℕ)) (s : EventLine) (line : List ℕ)
    → AreEventLines said ls
    → IsEventLine s line
    → AreEventLines (said ++ s ∷ []) (ls ++ line ∷ [])
are_more [] [] s line h is = (is, tt)
are_more [] (l ∷ ls) s line h is = absurd h
are_more (t ∷ said) [] s line h is = absurd h
are_more (t ∷ said) (l ∷ ls) s line h is = (h.0, are_more said ls s line h.1 is)

-- the last of some lines of events is one
pub last_is : (said : List EventLine) (ls : List (List ℕ)) (line : List ℕ)
    → AreEventLines said (ls ++ line ∷ [])
    → (s : EventLine) × IsEventLine s line
last_is [] [] line h = absurd h
last_is [] (l ∷ ls) line h = absurd h
last_is (s ∷ said) [] line h = (s, h.0)
last_is (s ∷ said) (l ∷ ls) line h = last_is said ls line h.1

are_front : (said : List EventLine) (xs ys : List (List ℕ))
    → AreEventLines said (xs ++ ys)
    → (own : List EventLine) × AreEventLines own xs
are_front said [] ys h = ([], tt)
are_front [] (x ∷ xs) ys h = absurd h
are_front (s ∷ said) (x ∷ xs) ys h = let (own, is) = are_front said xs ys h.1 in (s ∷ own, (h.0, is))

-- a beginning of lines that are as stated is as stated
pub front_as_stated : (xs ys : List (List ℕ)) → AreAsStated (xs ++ ys) → AreAsStated xs
front_as_stated [] ys h = tt
front_as_stated (x ∷ []) [] h = h
front_as_stated (x ∷ []) (y ∷ ys) (count, homes, said, servers, at_homes, each) = (count, servers)
front_as_stated (x ∷ z ∷ xs) ys (count, homes, said, servers, at_homes, each) =
    let (own, is) = are_front said xs ys each in (count, homes, own, servers, at_homes, is)
