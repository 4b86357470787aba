use Rattle.std.proofs.Common.{◌++◌, subst}
use Rattle.std.specs.List.{IsDistinct}
use Rattle.std.specs.Map.{keys_of}
use Rattle.std.specs.Ordering.{eq_by_cmp}
use Rattle.table.specs.Keys.{tree_key_cmp}
use Rattle.hash_index.specs.Tables.{joined}
use Rattle.hash_index.specs.Indexes.{entries}
use Rattle.hash_index.proofs.EntryLaws.{IsDistinct-from_apart}
use Rattle.hash_index.proofs.indexes.Index.len.Goals as goal

pub returns-clause-distinct : goal.returns-clause-distinct
returns-clause-distinct g c =
    subst (λ x. IsDistinct (eq_by_cmp tree_key_cmp) (keys_of (entries x))) c.self.view_is
    (IsDistinct-from_apart (joined c.self.inside.table ++ c.self.inside.more.entries) c.self.invariant.apart)
