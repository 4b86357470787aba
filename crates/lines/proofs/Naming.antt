-- A line that names a server.
use Rattle.std.proofs.Common.{◌≡◌, ◌≢◌, ℕ, ◌<◌, ◌+◌, List, ◌∷◌, ◌++◌, sym, ap, ◌∙◌, subst, arith, decimal, ⊎_elim}
use Rattle.std.proofs.Common.{drop, Bor, Option, None, Some, MatchOption}
use Rattle.std.proofs.lemmas.List.{append_cancel_left}
use Rattle.std.proofs.lemmas.Bool.Decides.{eqb_tells}

-- the space is cut off after the word
pub word_and_space : (line word after : List ℕ) (r : Option (Bor (List ℕ)))
    → line ≡ word ++ after
    → MatchOption r ((rest : List ℕ) → after ≢ 32 ∷ rest) (λ x. after ≡ 32 ∷ x.now)
    → MatchOption r ((rest : List ℕ) → line ≢ word ++ 32 ∷ rest) (λ x. line ≡ word ++ 32 ∷ x.now)
word_and_space line word after None cut absent =
    λ rest e. absent rest (append_cancel_left word after (32 ∷ rest) (sym cut ∙ e))
word_and_space line word after (Some x) cut found = cut ∙ ap (λ xs. word ++ xs) found

-- the text is none of the numbers so far, and not the next one
pub none_so_far : (text : List ℕ) (j : ℕ)
    → ((k : ℕ) → k < j → text ≢ decimal k)
    → text ≢ decimal j
    → (k : ℕ)
    → k < j + 1
    → text ≢ decimal k
none_so_far text j before here k below =
    ⊎_elim (λ same. subst (λ (n : ℕ). text ≢ decimal n) (sym same.1) here)
    (λ other. before k (grind (arith, below, other.1))) (eqb_tells k j)

-- so the line names none of these servers
pub names_none : (line word text : List ℕ) (count : ℕ)
    → line ≡ word ++ 32 ∷ text
    → ((k : ℕ) → k < count → text ≢ decimal k)
    → (j : ℕ)
    → j < count
    → line ≢ word ++ 32 ∷ decimal j
names_none line word text count is none j below e =
    none j below (ap (λ xs. drop 1 xs) (append_cancel_left word (32 ∷ text) (32 ∷ decimal j) (sym is ∙ e)))
