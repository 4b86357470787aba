-- How the inlets of one server are dealt out.
use Rattle.std.proofs.Common.{◌≡◌, ◌≢◌, inl, inr, ℕ, zero, suc, List, [], ◌∷◌, ◌++◌, Option, None}
use Rattle.std.proofs.Common.{length, refl, ap, sym, ◌∙◌, subst, append_assoc, append-nil, arith, length-append}
use Rattle.links.specs.Waiting.{at_place}
use Rattle.links.proofs.Waiting.{none_beyond}
use Rattle.craq_process.specs.Wiring.{last_first, listed}
use Rattle.craq_process.proofs.Dealt.{either, last_first_pushed, nothing_before}
use Rattle.craq_server.specs.Wiring.{IsPlaced, IsSeated, row}

-- what stands at the last place
last_pushed : {A : Type 0} (xs : List (Option A)) (y : Option A) (k : ℕ) → k ≡ length xs
    → at_place (xs ++ y ∷ []) k ≡ y
last_pushed [] y zero is = refl
last_pushed [] y (suc k) is = absurd (omega (arith, is))
last_pushed (x ∷ xs) y zero is = absurd (omega (arith, is))
last_pushed (x ∷ xs) y (suc k) is = last_pushed xs y k (omega (arith, is))

-- and at all others
others_pushed : {A : Type 0} (xs : List (Option A)) (y : Option A) (k : ℕ) → k ≢ length xs
    → at_place (xs ++ y ∷ []) k ≡ at_place xs k
others_pushed [] y zero other = absurd (other refl)
others_pushed [] y (suc k) other = refl
others_pushed (x ∷ xs) y zero other = refl
others_pushed (x ∷ xs) y (suc k) other = others_pushed xs y k (λ e. other (ap suc e))

-- nobody took any yet
pub seated_none : {A : Type 0} (id : ℕ) (before : List A) (taken : List (Option A)) → taken ≡ []
    → IsSeated id before before taken
seated_none id before [] none = record {
  each = sym (append-nil before);
  own = refl;
  whole = λ j within other none. absurd (omega (arith, within));
}
seated_none id before (x ∷ xs) none = absurd (cc (none))

-- one server more took its own
seated_one : {A : Type 0} (id j : ℕ) (before now next : List A) (taken : List (Option A)) (y : Option A)
    → IsSeated id before now taken
    → j ≡ length taken
    → now ≡ next ++ listed y
    → (j ≡ id → y ≡ None)
    → (j ≢ id → y ≡ None → next ≡ [])
    → IsSeated id before next (taken ++ y ∷ [])
seated_one {A} id j before now next taken y seated is took own whole =
    let here : at_place (taken ++ y ∷ []) j ≡ y = last_pushed taken y j is in
    let there : (k : ℕ) → k ≢ j → at_place (taken ++ y ∷ []) k ≡ at_place taken k =
    λ k other. others_pushed taken y k (λ e. other (e ∙ sym is)) in
    record {
      each = seated.each
          ∙ (ap (λ w. w ++ last_first taken) took
          ∙ (append_assoc next (listed y) (last_first taken)
          ∙ ap (λ w. next ++ w) (sym (last_first_pushed taken y))));
      own = elim (either id j) [
        | inl e ↦ ap (at_place (taken ++ y ∷ [])) e ∙ (here ∙ own (sym e))
        | inr other ↦ there id other ∙ seated.own
      ];
      whole = λ k below other none. elim (either k j) [
        | inl e ↦ whole (λ same. other (e ∙ same)) (sym here ∙ (ap (at_place (taken ++ y ∷ [])) (sym e) ∙ none))
        | inr apart ↦ nothing_before next (listed y)
            (sym took
            ∙ seated.whole k (omega (arith, length-append taken (y ∷ []), is, below, apart)) other
            (sym (there k apart) ∙ none))
      ];
    }

-- the same by what the list of them is then
pub seated_more : {A : Type 0} (id j : ℕ) (before now next : List A) (taken after : List (Option A)) (y : Option A)
    → IsSeated id before now taken
    → j ≡ length taken
    → now ≡ next ++ listed y
    → (j ≡ id → y ≡ None)
    → (j ≢ id → y ≡ None → next ≡ [])
    → after ≡ taken ++ y ∷ []
    → IsSeated id before next after
seated_more id j before now next taken after y seated is took own whole pushed =
    subst (IsSeated id before next) (sym pushed) (seated_one id j before now next taken y seated is took own whole)

-- what stands at the places of a list, in a row
row_of : {A : Type 0} (xs : List (Option A)) → row (length xs) (at_place xs) ≡ xs
row_of [] = refl
row_of (x ∷ xs) = ap (λ zs. x ∷ zs) (row_of xs)

something_there : {A : Type 0} (xs : List A) (x : A) → xs ++ x ∷ [] ≢ []
something_there [] x none = absurd (cc (none))
something_there (y ∷ ys) x none = absurd (cc (none))

-- once each has taken its own, and one was left
pub placed : {A : Type 0} (id servers : ℕ) (before after rest : List A) (notices : A) (taken : List (Option A))
    (place : ℕ → Option A)
    → IsSeated id before after taken
    → length taken ≡ servers
    → after ≡ rest ++ notices ∷ []
    → ((j : ℕ) → place j ≡ at_place taken j)
    → IsPlaced id servers before place notices
placed {A} id servers before after rest notices taken place seated size left at =
    let same : place ≡ at_place taken = λ i j. at j i in
    let in_row : row servers place ≡ taken =
    ap (row servers) same ∙ (ap (λ n. row n (at_place taken)) (sym size) ∙ row_of taken) in
    record {
      each = (
        rest,
        seated.each
            ∙ (ap (λ w. w ++ last_first taken) left ∙ ap (λ w. (rest ++ notices ∷ []) ++ last_first w) (sym in_row)),
      );
      own = at id ∙ seated.own;
      others = λ j within other none.
          something_there rest notices
          (sym left ∙ seated.whole j (omega (arith, size, within)) other (sym (at j) ∙ none));
      beyond = λ j past. at j ∙ none_beyond j taken (omega (arith, size, past));
    }
