use Rattle.std.proofs.Common.{◌≡◌, ℕ, ◌+◌, ◌<◌, List, ◌++◌, length, map, take, drop, set, get_or, ap, ◌∙◌, arith}
use Rattle.std.proofs.lemmas.List.{get_or_default}
use Rattle.std.proofs.lemmas.List.Edits.{map_over_more}
use Rattle.master_decisions.specs.declared.waits.Waiting.{Waiting}
use Rattle.master_decisions.specs.Waits.{renewed}
use Rattle.master_decisions.proofs.waits.renew_all.Goals as goal

-- one more is renewed
renewed_more : (xs ys : List Waiting) (i : ℕ) (d y : Waiting)
    → i < length xs
    → i < length ys
    → ys ≡ map renewed (take i xs) ++ drop i xs
    → y ≡ renewed (get_or ys i d)
    → set ys i y ≡ map renewed (take (i + 1) xs) ++ drop (i + 1) xs
renewed_more xs ys i d y low within so_far made =
    ap (λ z. set ys i z) made
    ∙ map_over_more renewed xs ys i (get_or ys i d) low so_far (get_or_default ys i d (get_or ys i d) within)

pub loop-waiting-preserved : goal.loop-waiting-preserved
loop-waiting-preserved c =
    renewed_more c.args.all.now c.loop-waiting.all c.loop-waiting.waiting-index _ c.renewed.result (omega arith)
    (omega arith) c.loop-waiting.invariant c.renewed.ensures
