use Rattle.std.proofs.Common.{◌≡◌, Some, None, ap, sym, ◌∙◌}
use Rattle.hash_index.specs.Entries.{value_at}
use Rattle.hash_index.specs.Tables.{joined}
use Rattle.hash_index.specs.Indexes.{found_at}
use Rattle.hash_index.proofs.EntryLaws.{value_at-left_none}
use Rattle.hash_index.proofs.IndexLaws.{found_left_as}
use Rattle.hash_index.proofs.indexes.Index.get.Goals as goal

pub returns-in-Some : goal.returns-in-Some
returns-in-Some g c =
    let is : value_at (joined c.self.inside.table) c.args.key.now ≡ Some c.value.result.now =
    sym (ap (value_at (joined c.self.inside.table)) c.tree_key.ensures) ∙ sym c.in-Some.ensures.value ∙
    c.value.ensures in
    sym (ap (λ x. found_at x c.args.key.now) (sym c.self.view_is) ∙ found_left_as (joined c.self.inside.table)
    c.self.inside.more.entries c.args.key.now c.value.result.now is)

pub returns-in-None : goal.returns-in-None
returns-in-None g c =
    let none : value_at (joined c.self.inside.table) c.args.key.now ≡ None =
    sym (ap (value_at (joined c.self.inside.table)) c.tree_key.ensures) ∙ c.in-None.ensures.absent in
    c.get.ensures.value ∙ ap (value_at c.self.inside.more.entries) c.tree_key-in-None.ensures
    ∙ sym (value_at-left_none (joined c.self.inside.table) c.self.inside.more.entries c.args.key.now none) ∙ ap (λ x.
    found_at x c.args.key.now) c.self.view_is
