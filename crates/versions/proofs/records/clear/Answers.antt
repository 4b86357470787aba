use Rattle.std.proofs.Common.{rules}
use Rattle.std.proofs.lemmas.Map.Keys.{IsDistinct-from_sorted}
use Rattle.table.specs.Keys.{tree_key_cmp}
use Rattle.versions.proofs.Bases.{cleared}
use Rattle.versions.proofs.records.clear.Goals as goal

-- each record has lost its item and kept its numbers, and is there still if it has any
pub returns : goal.returns
returns c =
    let left = cleared _ (λ f k v b w g t. search rules) c.args.records.now.entries _ _ c.retain.ensures.filtered
    (IsDistinct-from_sorted tree_key_cmp _ c.retain.ensures.was_ordered) in
    record { items = λ q. (left q).0; numbers = λ q. (left q).1 }
