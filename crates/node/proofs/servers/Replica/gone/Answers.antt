use Rattle.std.proofs.Common.{arith, sym, ap, ◌∙◌}
use Rattle.node.specs.Servers.{ServerState}
use Rattle.node.proofs.ViewLaws.{below-single, has-single_other}
use Rattle.node.proofs.servers.Replica.gone.Goals as goal

-- the view that names the failed server alone names no server outside the chain
pub join-requires-clause-below : goal.join-requires-clause-below
join-requires-clause-below c =
    let same = ap (λ (s : ServerState). s.count) c.self.view_is in
    rw c.single.ensures (below-single c.args.j c.args.self.now.count (omega (arith, same, c.if-j-self.true)))

-- the view that names the failed server alone doesn't name this server
pub join-requires-clause-outside : goal.join-requires-clause-outside
join-requires-clause-outside c =
    let same = ap (λ (s : ServerState). s.id) c.self.view_is in
    rw c.single.ensures (has-single_other c.args.j c.args.self.now.id (λ e. c.if-j-self-2.true (sym e ∙ sym same)))
