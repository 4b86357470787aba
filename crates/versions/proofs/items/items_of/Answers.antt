use Rattle.std.proofs.Common.{◌≡◌, [], ◌++◌, ap, sym, ◌∙◌, append-nil}
use Rattle.std.specs.FinMap.{empty}
use Rattle.std.proofs.lemmas.Map.Keys.{IsDistinct-from_sorted}
use Rattle.table.specs.Keys.{tree_key_cmp}
use Rattle.versions.specs.Records.{puts_of}
use Rattle.versions.specs.Stores.{items_put}
use Rattle.versions.proofs.Bases.{base-puts}
use Rattle.versions.proofs.items.items_of.Goals as goal

-- the items of all records, put one after another, make the base
pub returns : goal.returns
returns c =
    let es = c.args.records.now.entries in
    let none : c.loop-tree_key.tree_key-iterator ≡ [] = c.in-None.ensures.steps.0 in
    let all : c.loop-tree_key.found.items ≡ puts_of es = sym (append-nil c.loop-tree_key.found.items)
    ∙ ap (λ rest. c.loop-tree_key.found.items ++ puts_of rest) (sym none) ∙ c.loop-tree_key.invariant in
    ap (items_put empty) all ∙ base-puts es (IsDistinct-from_sorted tree_key_cmp _
    c.iter-tree_key-items.ensures.ordered)
