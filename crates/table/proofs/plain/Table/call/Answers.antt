use Rattle.std.proofs.Common.{◌∙◌, ◌+◌, ap}
use Rattle.table.specs.declared.operations.Reply.{Reply}
use Rattle.table.specs.declared.operations.Change.{Change}
use Rattle.table.specs.Decisions.{decision}
use Rattle.table.specs.Plain.{PlainTable, apply}
use Rattle.table.proofs.plain.Table.call.Goals as goal

pub returns-clause-reply : goal.returns-clause-reply
returns-clause-reply c =
    ap (λ (p : Reply × Change). p.0) c.in_ok-reply-2.ensures.decided
    ∙ ap (λ item. (decision item c.args.op.now (c.self.inside.count + 1)).0) c.find-2.ensures
    ∙ ap (λ (t : PlainTable). (apply t c.args.target.now c.args.op.now).0) c.self.view_is
