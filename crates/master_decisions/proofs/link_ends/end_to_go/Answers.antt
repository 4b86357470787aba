use Rattle.master_decisions.specs.LinkEnds.{weight}
use Rattle.master_decisions.proofs.Heaviest.{first_below, second_below}
use Rattle.master_decisions.proofs.link_ends.end_to_go.Goals as goal

pub returns-clause-first : goal.returns-clause-first
returns-clause-first c = first_below (weight c.args.links.now.said c.args.living c.args.heard) c.args.i c.args.j
    c.heavier.result c.weight-first.result c.weight-second.result c.weight-first.ensures c.weight-second.ensures
    c.heavier.ensures.one

pub returns-clause-second : goal.returns-clause-second
returns-clause-second c = second_below (weight c.args.links.now.said c.args.living c.args.heard) c.args.i c.args.j
    c.heavier.result c.weight-first.result c.weight-second.result c.weight-first.ensures c.weight-second.ensures
    c.heavier.ensures.one
