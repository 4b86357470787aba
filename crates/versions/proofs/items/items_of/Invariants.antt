use Rattle.std.proofs.Common.{◌≡◌, ◌++◌}
use Rattle.versions.specs.Records.{puts_of}
use Rattle.versions.proofs.items.items_of.Given as goal

-- the items found so far with those of the records that are left are those of all
abbrev pub invariant-loop-tree_key : goal.invariant-loop-tree_key
invariant-loop-tree_key l = l.found.items ++ puts_of l.tree_key-iterator ≡ puts_of l.records.entries
