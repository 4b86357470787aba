-- The notices of a master, a server at a time.
use Rattle.std.proofs.Common.{◌≡◌, ℕ, suc, ◌+◌, ◌-◌, ◌<◌, ◌≤◌, true, false, cond, List, [], ◌∷◌, ◌++◌, refl, arith}
use Rattle.std.proofs.Common.{append_assoc, append-nil, sym, ap, ◌∙◌}
use Rattle.node.specs.Views.{View, has}
use Rattle.node.specs.Masters.{notices_from}

notices_suc : (gone : View) (j i many : ℕ)
    → notices_from gone j i (suc many) ≡ cond (has gone i) (notices_from gone j (suc i) many)
    ((i, j) ∷ notices_from gone j (suc i) many)
unfolding notices_from
notices_suc gone j i many = refl

notices_zero : (gone : View) (j i : ℕ) → notices_from gone j i 0 ≡ []
unfolding notices_from
notices_zero gone j i = refl

-- the notices from a server on: one for it if it lives, and those from the next server on
pub notices_within : (gone : View) (j i count : ℕ)
    → i < count
    → notices_from gone j i (count - i) ≡ cond (has gone i) (notices_from gone j (i + 1) (count - (i + 1)))
    ((i, j) ∷ notices_from gone j (i + 1) (count - (i + 1)))
notices_within gone j i count l =
    let a : count - i ≡ suc (count - (i + 1)) = omega arith in
    let b : i + 1 ≡ suc i = omega arith in
    rw a (rw b (notices_suc gone j i (count - suc i)))

-- past the last server there are no notices
pub notices_past : (gone : View) (j i count : ℕ) → count ≤ i → notices_from gone j i (count - i) ≡ []
notices_past gone j i count l = let a : count - i ≡ 0 = omega arith in rw a (notices_zero gone j i)

-- one server more was looked at: it has failed, or it lives and has its notice
pub past_failed : (gone : View) (j i count : ℕ) (whole given : List (ℕ × ℕ))
    → i < count
    → has gone i ≡ true
    → whole ≡ given ++ notices_from gone j i (count - i)
    → whole ≡ given ++ notices_from gone j (i + 1) (count - (i + 1))
past_failed gone j i count whole given l h e = e ∙ ap (λ r. given ++ r) (rw (notices_within gone j i count l, h) refl)

-- a server that lives was looked at: its notice is given, and those from the next one on are left
pub past_living : (gone : View) (j i count : ℕ) (whole given : List (ℕ × ℕ))
    → i < count
    → has gone i ≡ false
    → whole ≡ given ++ notices_from gone j i (count - i)
    → whole ≡ (given ++ (i, j) ∷ []) ++ notices_from gone j (i + 1) (count - (i + 1))
past_living gone j i count whole given l h e =
    e ∙ ap (λ r. given ++ r) (rw (notices_within gone j i count l, h) refl) ∙ sym (append_assoc given ((i, j) ∷ []) _)

-- once all servers were looked at, all notices are given
pub all_looked_at : (gone : View) (j i count : ℕ) (whole given : List (ℕ × ℕ))
    → count ≤ i
    → whole ≡ given ++ notices_from gone j i (count - i)
    → given ≡ whole
all_looked_at gone j i count whole given l e =
    sym (e ∙ ap (λ r. given ++ r) (notices_past gone j i count l) ∙ append-nil given)
