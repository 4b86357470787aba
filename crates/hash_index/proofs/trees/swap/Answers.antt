use Rattle.std.proofs.lemmas.Map.Keys.{IsDistinct-from_sorted}
use Rattle.table.specs.Keys.{tree_key_cmp}
use Rattle.hash_index.proofs.EntryLaws.{apart_from_IsDistinct}
use Rattle.hash_index.proofs.trees.swap.Goals as goal

pub returns-in-Some-clause-apart : goal.returns-in-Some-clause-apart
returns-in-Some-clause-apart g c =
    apart_from_IsDistinct (c.get_mut.follows.lender c.replace.new.dest).entries
    (IsDistinct-from_sorted tree_key_cmp _ (c.get_mut.follows.holds c.replace.new.dest).4)
