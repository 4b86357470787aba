use Rattle.std.proofs.Common.{rules, ◌≡◌, Some, sym, ◌∙◌}
use Rattle.node.specs.Numbering.{open_update}
use Rattle.node.proofs.forwarding.settle.Goals as goal

-- the own call that was taken out gets the entry's reply, at its port
pub returns-in_ok-push-clause-replies : goal.returns-in_ok-push-clause-replies
returns-in_ok-push-clause-replies c =
    let found : open_update c.args.pend.now.items c.id.result ≡ Some c.in-Some.update =
    sym c.take_out.ensures.found ∙ c.in-Some.is in
    search rules
