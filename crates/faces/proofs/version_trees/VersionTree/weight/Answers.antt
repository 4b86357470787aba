use Rattle.std.proofs.Common.{◌∙◌, sym}
use Rattle.faces.proofs.Weighing.{tree_len}
use Rattle.faces.proofs.version_trees.VersionTree.weight.Goals as goal

pub returns : goal.returns
returns c = rw (← c.self.view_is) (λ i. record {
  items = (c.len.ensures.len ∙ sym (tree_len c.self.inside.tree.entries c.len.ensures.ordered)) i;
  bytes = sym c.self.invariant i;
})
