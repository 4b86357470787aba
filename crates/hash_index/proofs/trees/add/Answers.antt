use Rattle.std.proofs.lemmas.Map.Keys.{IsDistinct-from_sorted}
use Rattle.table.specs.Keys.{tree_key_cmp}
use Rattle.hash_index.proofs.EntryLaws.{apart_from_IsDistinct}
use Rattle.hash_index.proofs.trees.add.Goals as goal

pub returns-in-Ok-clause-apart : goal.returns-in-Ok-clause-apart
returns-in-Ok-clause-apart g c =
    apart_from_IsDistinct c.insert.new.self.entries (IsDistinct-from_sorted tree_key_cmp _ c.insert.ensures.ordered)

pub returns-clause-apart : goal.returns-clause-apart
returns-clause-apart g c =
    apart_from_IsDistinct c.insert.new.self.entries (IsDistinct-from_sorted tree_key_cmp _ c.insert.ensures.ordered)
