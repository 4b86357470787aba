use Rattle.faces.proofs.Weighing.{bytes_none}
use Rattle.faces.proofs.version_trees.VersionTree.new.Goals as goal

pub invariant_of-result : goal.invariant_of-result
invariant_of-result c = rw (c.new.ensures.empty) bytes_none
