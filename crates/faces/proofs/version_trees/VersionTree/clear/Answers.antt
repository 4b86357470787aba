use Rattle.faces.proofs.Weighing.{bytes_none}
use Rattle.faces.proofs.version_trees.VersionTree.clear.Goals as goal

pub invariant_of-self : goal.invariant_of-self
invariant_of-self c = rw (c.take.ensures) bytes_none
