use Rattle.std.proofs.Common.{◌+◌}
use Rattle.node.proofs.DecisionLaws.{entry_parts}
use Rattle.node.proofs.servers.Replica.entry_of.Goals as goal

-- an item that is put has the entry's number as its unique, and isn't too large
pub new-requires-clause-put : goal.new-requires-clause-put
new-requires-clause-put c =
    (entry_parts _ c.args.call.now (c.last-number.result + 1) _ _ c.in_ok-reply.ensures.decided c.requires.call
    c.requires.update).put
