use Rattle.std.proofs.Common.{◌∙◌, ap, sym}
use Rattle.table.proofs.TreeKeyLaws.{get_tree_key, placed_at}
use Rattle.faces.proofs.version_trees.VersionTree.get.Goals as goal

pub returns : goal.returns
returns c =
    let entries = c.self.inside.tree.entries in
    rw (← c.self.view_is)
    (c.get.ensures.value ∙ ap (placed_at entries) c.tree_key.ensures ∙ sym (get_tree_key entries c.args.key.now))
