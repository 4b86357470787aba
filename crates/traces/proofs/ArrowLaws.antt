-- Each thing that was put has one arrow.
use Rattle.std.proofs.Common.{◌≡◌, ℕ, ◌+◌, List, [], ◌∷◌, ◌++◌, None, Some, Option, refl, ap, ◌∙◌}
use Rattle.std.specs.Prelude.{map, flat_map, slice_get}
use Rattle.std.proofs.lemmas.List.{map-append}
use Rattle.traces.specs.declared.crossings.Way.{Way}
use Rattle.traces.specs.declared.crossings.Crossing.{Crossing}
use Rattle.traces.specs.declared.arrows.Arrow.{Arrow}
use Rattle.traces.specs.Crossings.{only_on}
use Rattle.traces.specs.Arrows.{arrow_of, laid, laid_on, laid_from, row_laid, row_laid_on}

-- what the arrow of a thing stands for
abbrev stands_for : Arrow → Crossing
stands_for arrow = arrow.put

-- an arrow stands for what was put
one_put : (row : ℕ) (p : Crossing) (taken : Option Crossing) → stands_for (arrow_of row p taken) ≡ p
unfolding arrow_of
one_put row p None = refl
one_put row p (Some t) = refl

-- the arrows of a way stand for what was put on it
laid_puts : (row : ℕ) (takes : List Crossing) (place : ℕ) (puts : List Crossing)
    → map stands_for (laid row takes place puts) ≡ puts
laid_puts row takes place [] = refl
laid_puts row takes place (p ∷ ps) =
    let after = row_laid row (arrow_of row p (slice_get takes place)) in
    ap (λ q. q ∷ map stands_for (laid after takes (place + 1) ps)) (one_put row p (slice_get takes place))
    ∙ ap (λ qs. p ∷ qs) (laid_puts after takes (place + 1) ps)

-- those of all ways
pub laid_from_puts : (puts takes : List Crossing) (row : ℕ) (ways : List Way)
    → map stands_for (laid_from puts takes row ways) ≡ flat_map (λ w. only_on w puts) ways
laid_from_puts puts takes row [] = refl
laid_from_puts puts takes row (w ∷ ws) =
    map-append stands_for (laid_on puts takes row w) (laid_from puts takes (row_laid_on puts takes row w) ws)
    ∙ ap (λ front. front ++ map stands_for (laid_from puts takes (row_laid_on puts takes row w) ws))
    (laid_puts row (only_on w takes) 0 (only_on w puts))
    ∙ ap (λ rest. only_on w puts ++ rest) (laid_from_puts puts takes (row_laid_on puts takes row w) ws)
