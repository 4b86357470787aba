use Rattle.std.proofs.Common.{ap, sym, ◌∙◌, length}
use Rattle.hash_index.proofs.RowLaws.{length-rows}
use Rattle.hash_index.proofs.rows.Rows.len.Goals as goal

pub returns-clause-len : goal.returns-clause-len
returns-clause-len g c =
    sym (length-rows c.self.inside.rows.items c.self.inside.count c.self.invariant.0)
    ∙ ap (λ xs. length xs) c.self.view_is
