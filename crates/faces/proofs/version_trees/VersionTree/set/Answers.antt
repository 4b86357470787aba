use Rattle.std.proofs.Common.{◌≡◌, ◌+◌, refl}
use Rattle.faces.proofs.Weighing.{bytes_at, counted_before, count_set, map_set, less_some, less_none}
use Rattle.faces.proofs.version_trees.VersionTree.set.Goals.{in-Some-before, in-None}
use Rattle.faces.proofs.version_trees.VersionTree.set.Goals as goal

pub less-self-inside-requires : goal.less-self-inside-requires
less-self-inside-requires c =
    counted_before c.self.inside.tree.entries c.in_ok-to_tree_key.field-0 c.args.key.now c.in-Some-before.before
    c.in_ok-before.before c.self.inside.bytes c.in-Some.bytes _ c.in_ok-to_tree_key.ensures c.in_ok-before.ensures.old
    c.self.invariant c.in-Some.ensures c.in-Some-before.is

pub invariant_of-self-2 : goal.invariant_of-self-2
invariant_of-self-2 c =
    let k = c.args.key.now in
    let o = c.in_ok-before.before in
    let less : c.match-before.self + bytes_at k o ≡ c.in-Some.bytes =
    elim c.match-before.branch [
      | in-Some-before w ↦ rw w.self-is (less_some k o w.in-Some-before.before _ c.in-Some.bytes w.in-Some-before.is
          w.less-self-inside.ensures)
      | in-None w ↦ rw w.self-is (less_none k o _ c.in-Some.bytes w.in-None.is refl)
    ] in
    count_set c.self.inside.tree.entries c.insert.new.self.entries c.in_ok-to_tree_key.field-0 k c.in_ok-clone.field-0
    c.args.version.now o c.self.inside.bytes c.in-Some.bytes c.match-before.self c.in_ok-to_tree_key.ensures
    c.in_ok-clone.ensures.cases c.in_ok-before.ensures.updates.0 c.in_ok-before.ensures.old c.self.invariant
    c.in-Some.ensures less

pub returns-clause-ok : goal.returns-clause-ok
returns-clause-ok c = rw (← c.self.view_is)
    (map_set c.self.inside.tree.entries c.insert.new.self.entries c.in_ok-to_tree_key.field-0 c.args.key.now
    c.in_ok-clone.field-0 c.args.version.now c.in_ok-to_tree_key.ensures c.in_ok-clone.ensures.cases
    c.in_ok-before.ensures.updates.0)
