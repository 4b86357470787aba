use Rattle.std.proofs.Common.{◌++◌, sym, ap, subst, ◌∙◌}
use Rattle.serving.specs.Connections.{Connected, IsReachedAhead, reached}
use Rattle.serving.proofs.GoingAhead.{fed_ahead, seen_fed_ahead}
use Rattle.serving.proofs.Resting.{resting_none}
use Rattle.serving.proofs.connections.Connection.feed.Goals as goal

pub invariant_of-self : goal.invariant_of-self
invariant_of-self c =
    let s = c.self.inside in (
      subst (λ bytes. IsReachedAhead bytes s.outcomes.all s.written c.feed.new.self s.ahead.items) (sym c.add.ensures)
          (fed_ahead s.read c.args.piece.now s.outcomes.all s.written s.session c.feed.new.self s.ahead.items
          c.self.invariant.0 (ap (λ v. v.waiting) c.self.view_is ∙ c.requires.idle)
          (ap (λ v. v.closed) c.self.view_is ∙ c.requires.open) c.in-Ok.ensures.ok),
      resting_none c.add.new.self s.outcomes.all s.written c.feed.new.self s.ahead.items,
    )

pub returns-in-Ok-clause-ok : goal.returns-in-Ok-clause-ok
returns-in-Ok-clause-ok c =
    let s = c.self.inside in
    ap (λ bytes. reached bytes s.outcomes.all s.written c.feed.new.self s.ahead.items s.ended s.failed) c.add.ensures
    ∙ (seen_fed_ahead s.read c.args.piece.now s.outcomes.all s.written s.session c.feed.new.self s.ahead.items s.ended
    s.failed c.self.invariant.0 (ap (λ v. v.waiting) c.self.view_is ∙ c.requires.idle)
    (ap (λ v. v.closed) c.self.view_is ∙ c.requires.open) c.in-Ok.ensures.ok
    ∙ ap {A = Connected} (λ v. record v { read = v.read ++ c.args.piece.now }) c.self.view_is)
