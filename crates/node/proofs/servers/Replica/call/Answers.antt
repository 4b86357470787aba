use Rattle.std.proofs.Common.{◌≡◌, true, sym, ◌∙◌}
use Rattle.table.specs.Operations.{is_update}
use Rattle.node.proofs.servers.Replica.call.Goals as goal

-- a call that is an update does what an update does
pub returns-then-is_update : goal.returns-then-is_update
returns-then-is_update c =
    let is : is_update c.args.call.op ≡ true = sym c.is_update.ensures ∙ c.if-is_update.true in
    rw is c.update-done.ensures
