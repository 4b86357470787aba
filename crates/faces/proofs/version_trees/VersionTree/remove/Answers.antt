use Rattle.std.proofs.Common.{◌∙◌, sym}
use Rattle.faces.proofs.Weighing.{counted, count_removed, less_some, map_removed}
use Rattle.faces.proofs.version_trees.VersionTree.remove.Goals as goal

pub less-self-inside-requires : goal.less-self-inside-requires
less-self-inside-requires c =
    counted c.self.inside.tree.entries c.tree_key.result.now c.args.key.now c.in-Some.before c.self.inside.bytes
    c.tree_key.ensures (sym c.in-Some.is ∙ c.remove.ensures.value) c.self.invariant

pub invariant_of-self : goal.invariant_of-self
invariant_of-self c =
    count_removed c.self.inside.tree.entries c.remove.new.self.entries c.tree_key.result.now c.args.key.now
    c.remove.result
    c.self.inside.bytes c.less-self-inside.result c.tree_key.ensures c.remove.ensures.updates.0 c.remove.ensures.value
    c.self.invariant
    (less_some c.args.key.now c.remove.result c.in-Some.before c.less-self-inside.result c.self.inside.bytes
    c.in-Some.is c.less-self-inside.ensures)

pub returns-in-Some : goal.returns-in-Some
returns-in-Some c = rw (← c.self.view_is)
    (map_removed c.self.inside.tree.entries c.remove.new.self.entries c.tree_key.result.now c.args.key.now
    c.tree_key.ensures c.remove.ensures.updates.0)

pub returns-in_default : goal.returns-in_default
returns-in_default c = rw (← c.self.view_is)
    (map_removed c.self.inside.tree.entries c.remove.new.self.entries c.tree_key.result.now c.args.key.now
    c.tree_key.ensures c.remove.ensures.updates.0)
