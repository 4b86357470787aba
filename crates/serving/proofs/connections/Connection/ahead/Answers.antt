use Rattle.std.proofs.Common.{◌≡◌, MatchOption, refl, sym, subst}
use Rattle.serving.specs.Connections.{IsAskedAhead, IsReachedAhead, IsResting, reached}
use Rattle.serving.proofs.GoingAhead.{seen_ahead, went_ahead}
use Rattle.serving.proofs.Resting.{resting_none}
use Rattle.serving.proofs.connections.Connection.ahead.Goals as goal

pub invariant_of-self : goal.invariant_of-self
invariant_of-self c =
    let s = c.self.inside in
    let left = c.take_ahead.new in (
      went_ahead s.read s.outcomes.all s.written s.session left.session s.ahead.items left.ahead.items c.in-Ok.found
          c.self.invariant.0 (c.if-not-awaits_update.ensures.0 refl) c.in-Ok.ensures.ok,
      resting_none s.read s.outcomes.all s.written left.session left.ahead.items,
    )

pub invariant_of-self-in-Err : goal.invariant_of-self-in-Err
invariant_of-self-in-Err c =
    let s = c.self.inside in
    let left = c.take_ahead.new in (
      subst (IsReachedAhead s.read s.outcomes.all s.written left.session) (sym c.in-Err.ensures.err.1)
          (subst (λ h. IsReachedAhead s.read s.outcomes.all s.written h s.ahead.items) (sym c.in-Err.ensures.err.0)
          c.self.invariant.0),
      subst (IsResting s.rests s.read s.outcomes.all s.written left.session) (sym c.in-Err.ensures.err.1)
          (subst (λ h. IsResting s.rests s.read s.outcomes.all s.written h s.ahead.items) (sym c.in-Err.ensures.err.0)
          c.self.invariant.1),
    )

pub returns-in-Ok-clause-ok : goal.returns-in-Ok-clause-ok
returns-in-Ok-clause-ok c =
    let s = c.self.inside in
    let left = c.take_ahead.new in
    let after = reached s.read s.outcomes.all s.written left.session left.ahead.items s.ended s.failed in
    subst (λ v. MatchOption c.in-Ok.found (after ≡ v) (λ call. IsAskedAhead call v after)) c.self.view_is
    (seen_ahead s.read s.outcomes.all s.written s.session left.session s.ahead.items left.ahead.items s.ended s.failed
    c.in-Ok.found c.self.invariant.0 (c.if-not-awaits_update.ensures.0 refl) c.in-Ok.ensures.ok)
