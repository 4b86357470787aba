use Rattle.std.proofs.Common.{◌++◌, ◌≤◌, length, take, sym, ap, subst, ◌∙◌}
use Rattle.proto.specs.Runs.{taken_from}
use Rattle.serving.specs.Connections.{IsReachedAhead, IsResting}
use Rattle.serving.proofs.GoingAhead.{written_ahead}
use Rattle.serving.proofs.Resting.{resting_written}
use Rattle.serving.proofs.connections.Connection.written.Goals as goal

pub invariant_of-self : goal.invariant_of-self
invariant_of-self c =
    let s = c.self.inside in
    let written_is = c.add.ensures ∙ ap (λ out. s.written ++ take c.args.n out) c.out.ensures in (
      subst (λ held. IsReachedAhead s.read s.outcomes.all c.add.new.self held s.ahead.items) (sym c.taken.ensures)
          (subst (λ written. IsReachedAhead s.read s.outcomes.all written (taken_from s.session c.args.n) s.ahead.items)
          (sym written_is)
          (written_ahead s.read s.outcomes.all s.written s.session s.ahead.items c.args.n c.self.invariant.0
          (subst (λ v. c.args.n ≤ length v.due) (sym c.self.view_is) c.requires))),
      subst (λ held. IsResting s.rests s.read s.outcomes.all c.add.new.self held s.ahead.items) (sym c.taken.ensures)
          (subst (λ written. IsResting s.rests s.read s.outcomes.all written (taken_from s.session c.args.n)
          s.ahead.items) (sym written_is)
          (resting_written s.rests s.read s.outcomes.all s.written s.session s.ahead.items c.args.n
          c.self.invariant.1)),
    )
