use Rattle.std.proofs.Common.{ap, subst, ◌∙◌}
use Rattle.serving.specs.Connections.{IsLooked, reached}
use Rattle.serving.specs.Wanted.{HasStepped}
use Rattle.serving.proofs.GoingAhead.{stepped_ahead}
use Rattle.serving.proofs.Resting.{resting_none}
use Rattle.serving.proofs.connections.Connection.turn.Goals as goal

pub invariant_of-self : goal.invariant_of-self
invariant_of-self c =
    let s = c.self.inside in (
      (stepped_ahead c.in-Ok.step s.read s.outcomes.all s.written s.session c.next.new.self s.ahead.items s.ended
          s.failed c.self.invariant.0 (ap (λ v. v.waiting) c.self.view_is ∙ c.requires.idle) c.in-Ok.ensures.left
          c.in-Ok.ensures.tells c.in-Ok.ensures.opens).is,
      resting_none s.read s.outcomes.all s.written c.next.new.self s.ahead.items,
    )

pub returns-in-Ok-clause-looked : goal.returns-in-Ok-clause-looked
returns-in-Ok-clause-looked c =
    let s = c.self.inside in
    subst (λ v. IsLooked v (reached s.read s.outcomes.all s.written c.next.new.self s.ahead.items s.ended s.failed))
    c.self.view_is
    (stepped_ahead c.in-Ok.step s.read s.outcomes.all s.written s.session c.next.new.self s.ahead.items s.ended s.failed
    c.self.invariant.0 (ap (λ v. v.waiting) c.self.view_is ∙ c.requires.idle) c.in-Ok.ensures.left c.in-Ok.ensures.tells
    c.in-Ok.ensures.opens).looked

pub returns-in-Ok-clause-stepped : goal.returns-in-Ok-clause-stepped
returns-in-Ok-clause-stepped c =
    let s = c.self.inside in
    subst (λ v. HasStepped c.in-Ok.step v
    (reached s.read s.outcomes.all s.written c.next.new.self s.ahead.items s.ended s.failed))
    c.self.view_is
    (stepped_ahead c.in-Ok.step s.read s.outcomes.all s.written s.session c.next.new.self s.ahead.items s.ended s.failed
    c.self.invariant.0 (ap (λ v. v.waiting) c.self.view_is ∙ c.requires.idle) c.in-Ok.ensures.left c.in-Ok.ensures.tells
    c.in-Ok.ensures.opens).stepped
