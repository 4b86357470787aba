use Rattle.std.proofs.Common.{sym, ◌∙◌}
use Rattle.master_decisions.specs.Waits.{is_unwritten, written_at}
use Rattle.master_decisions.proofs.Firsts.{changed_nowhere, changed_there}
use Rattle.master_decisions.proofs.waits.Waits.written.Goals as goal

-- what stands at the place that is found is the first that isn't written
pub returns-in-Some : goal.returns-in-Some
returns-in-Some c =
    let at = rw (← c.self.view_is) at (sym c.place_of_unwritten.ensures ∙ c.in-Some.is) in
    rw (← c.self.view_is) (changed_there is_unwritten (written_at c.args.now) c.self.inside.all.items c.in-Some.k
    c.index.result.now c.written_at.result at c.index.ensures c.written_at.ensures)

-- all are written
pub returns-in_default : goal.returns-in_default
returns-in_default c =
    changed_nowhere is_unwritten (written_at c.args.now) c.args.self.now
    (sym c.place_of_unwritten.ensures ∙ c.in_default.is)
