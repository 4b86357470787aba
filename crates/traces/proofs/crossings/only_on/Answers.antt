use Rattle.std.proofs.Common.{rules, tests, ◌≡◌, ◌++◌, Bool, true, false, List, [], ◌∷◌, refl, ap, sym, ◌∙◌, cond}
use Rattle.std.specs.List.{filter}
use Rattle.std.proofs.lemmas.Result.{IfOk-weaker}
use Rattle.std.proofs.lemmas.Iterator.{YieldsList-from_slice, items_from_collect}
use Rattle.std.proofs.lemmas.Iterator.Consumers.{YieldsList-at, YieldsList-from_filter, YieldsList-from_copied}
use Rattle.traces.specs.declared.crossings.Way.{Way}
use Rattle.traces.specs.declared.crossings.Crossing.{Crossing}
use Rattle.traces.specs.Crossings.{if_on, is_same_way}
use Rattle.traces.specs.Crossings as crossings
use Rattle.traces.proofs.crossings.only_on.Goals as goal

abbrev is_on : Way → Crossing → Bool
is_on w p = is_same_way p.way w

one_more : (w : Way) (p : Crossing) (ps : List Crossing) (t : Bool)
    → is_on w p ≡ t
    → cond t (p ∷ ps) ps ≡ if_on w p ++ ps
unfolding if_on
one_more w p ps true is = ap (λ (t : Bool). cond t (p ∷ []) [] ++ ps) (sym is)
one_more w p ps false is = ap (λ (t : Bool). cond t (p ∷ []) [] ++ ps) (sym is)

filtered : (w : Way) (ps : List Crossing) → filter (is_on w) ps ≡ crossings.only_on w ps
filtered w [] = refl
filtered w (p ∷ ps) =
    one_more w p (filter (is_on w) ps) (is_on w p) refl ∙ ap (λ rest. if_on w p ++ rest) (filtered w ps)

pub returns : goal.returns
returns c =
    IfOk-weaker c.collect.result _ _ (λ found is. is ∙ filtered c.args.way c.args.crossings.now)
    (items_from_collect _ c.collect.ensures.ran
    (YieldsList-from_filter _ (is_on c.args.way)
    (YieldsList-at c.filter.ensures.source
    (YieldsList-from_copied (YieldsList-at c.copied.ensures.source (YieldsList-from_slice c.args.crossings.now cc))))
    c.filter.ensures.closure (λ x r q k. search (rules, tests))))
