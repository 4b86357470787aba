use Rattle.node.proofs.RuleLaws.{lawful-opening}
use Rattle.node.proofs.nodes.Node.new.Goals as goal

-- a new node has a lawful server, as each node that isn't stopped
pub invariant_of-result : goal.invariant_of-result
invariant_of-result c =
    λ goes_on. rw c.new.ensures (lawful-opening c.args.id c.args.count c.if-id-count.false c.if-count-gt-SERVERS.false)

-- the server of a new node is lawful
pub returns-clause-lawful : goal.returns-clause-lawful
returns-clause-lawful c =
    rw c.new.ensures (lawful-opening c.args.id c.args.count c.if-id-count.false c.if-count-gt-SERVERS.false)
