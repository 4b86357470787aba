use Rattle.std.proofs.Common.{◌∙◌, ap}
use Rattle.faces.specs.Shown.{acts_of}
use Rattle.faces.proofs.BoardRuleLaws.{filled_by}
use Rattle.faces.proofs.faces.Face.copies.Goals as goal

pub returns-clause-first : goal.returns-clause-first
returns-clause-first c =
    filled_by _ _ c.args.change.steps.items c.args.change.acked _ c.in_ok-first.ensures
    (c.as_slice.ensures.value ∙ c.in_ok-acts.ensures
    ∙ ap (acts_of c.args.change.steps.items c.args.change.acked) c.again.ensures)

pub returns-clause-second : goal.returns-clause-second
returns-clause-second c =
    filled_by _ _ c.args.change.steps.items c.args.change.acked _ c.in_ok-second.ensures
    (c.as_slice-2.ensures.value ∙ c.in_ok-acts.ensures
    ∙ ap (acts_of c.args.change.steps.items c.args.change.acked) c.again.ensures)
