use Rattle.std.proofs.Common.{◌≡◌, None, ap, sym, ◌∙◌}
use Rattle.std.specs.Option.{option_copied}
use Rattle.hash_index.specs.Entries.{value_at}
use Rattle.hash_index.specs.Tables.{joined}
use Rattle.hash_index.specs.Indexes.{found_at}
use Rattle.hash_index.proofs.EntryLaws.{value_at-left_none}
use Rattle.hash_index.proofs.indexes.Index.place.Goals as goal

pub returns-in-None-clause-absent : goal.returns-in-None-clause-absent
returns-in-None-clause-absent g c =
    let none : value_at (joined c.self.inside.table) c.args.key.now ≡ None =
    sym (ap (value_at (joined c.self.inside.table)) c.tree_key.ensures) ∙ c.in_default.ensures.absent in
    ap (λ x. found_at x c.args.key.now) (sym c.self.view_is) ∙ value_at-left_none (joined c.self.inside.table)
    c.self.inside.more.entries c.args.key.now none
    ∙ sym (ap (value_at c.self.inside.more.entries) c.tree_key-2.ensures) ∙ sym c.get.ensures.value ∙ ap
    option_copied c.in-None.is
