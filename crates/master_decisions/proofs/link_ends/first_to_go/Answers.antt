use Rattle.std.proofs.Common.{◌∙◌, arith}
use Rattle.master_decisions.specs.LinkEnds.{weight}
use Rattle.master_decisions.proofs.Heaviest.{at_most, last_without, most_with, most_without, own_with, own_without}
use Rattle.master_decisions.proofs.link_ends.first_to_go.Goals as goal
use Rattle.master_decisions.proofs.link_ends.first_to_go.Goals.{then-weight-most, else-weight-most}

pub loop-j-preserved : goal.loop-j-preserved
loop-j-preserved c =
    let f = weight c.args.links.now.said c.args.living c.args.heard in
    elim c.if-weight-most.branch [
      | then-weight-most w ↦ record {
        most = most_with f c.loop-j.j c.loop-j.most c.weight-weight.result c.if-weight-most.most
            c.loop-j.invariant.most c.weight-weight.ensures w.if-weight-most.true w.most-is;
        last = λ k below _. at_most c.loop-j.j c.if-weight-most.heaviest k w.heaviest-is below;
        own = λ _. own_with f c.loop-j.j c.loop-j.most c.weight-weight.result c.if-weight-most.most
            c.if-weight-most.heaviest c.weight-weight.ensures w.most-is w.heaviest-is;
      }
      | else-weight-most w ↦ record {
        most = most_without f c.loop-j.j c.loop-j.most c.weight-weight.result c.if-weight-most.most
            c.loop-j.invariant.most c.weight-weight.ensures w.if-weight-most.false w.most-is;
        last = last_without f c.loop-j.j c.loop-j.most c.weight-weight.result c.if-weight-most.most
            c.loop-j.heaviest c.if-weight-most.heaviest c.loop-j.invariant.last c.weight-weight.ensures
            w.if-weight-most.false w.most-is w.heaviest-is;
        own = own_without f c.loop-j.j c.loop-j.most c.weight-weight.result c.if-weight-most.most
            c.loop-j.heaviest c.if-weight-most.heaviest c.loop-j.invariant.own w.most-is w.heaviest-is;
      }
    ]

pub returns-then-most-gt0-clause-equal : goal.returns-then-most-gt0-clause-equal
returns-then-most-gt0-clause-equal c k low same =
    c.loop-j.invariant.last k (omega arith) (same ∙ c.loop-j.invariant.own c.if-most-gt0.true)
