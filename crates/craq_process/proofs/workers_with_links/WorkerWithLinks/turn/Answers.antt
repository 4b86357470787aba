use Rattle.std.proofs.Common.{◌∙◌, ap}
use Rattle.faces.specs.Histories.{Instance}
use Rattle.craq_process.proofs.workers_with_links.WorkerWithLinks.turn.Goals as goal

pub invariant_of-self : goal.invariant_of-self
invariant_of-self g c =
    record {
      own = ap (λ (o : Instance). o.start.id) c.turn_if_any.ensures.server ∙ c.args.self.now.own;
      sender = g.met.L.ScheduledLinks.stays_own _ _ _ c.turn_if_any.ensures.carried.spelled c.args.self.now.sender;
    }
