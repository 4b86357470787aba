use Rattle.std.proofs.Common.{[], ◌∷◌, ◌++◌, length, drop, sym, subst}
use Rattle.proto.specs.Turns.{Refused, calls_of}
use Rattle.proto.specs.Streams.{turns}
use Rattle.serving.specs.Connections.{HasOutcome, IsReachedAhead, MayRefuse, reached, resumed}
use Rattle.serving.proofs.GoingAhead.{can_refuse_ahead, refused_ahead, seen_refused_ahead}
use Rattle.serving.proofs.Resting.{resting_none}
use Rattle.serving.proofs.connections.Connection.refuse.Goals as goal

pub invariant_of-self : goal.invariant_of-self
invariant_of-self c =
    let s = c.self.inside in
    let left = c.refuse.new.self in
    let can = can_refuse_ahead (drop (length s.outcomes.all) (calls_of (turns s.read))) s.ahead.items s.session
    c.self.invariant.0.may_be c.self.invariant.0.reached.asked
    (subst (λ v. MayRefuse v.waiting) (sym c.self.view_is) c.requires.may_refuse) in (
      subst (λ os. IsReachedAhead s.read os s.written c.resume.new.session c.resume.new.ahead.items)
          (sym c.then_refused-self-inside.ensures)
          (subst (λ h. IsReachedAhead s.read (s.outcomes.all ++ Refused ∷ []) s.written h c.resume.new.ahead.items)
          (sym c.resume.ensures.session)
          (subst (IsReachedAhead s.read (s.outcomes.all ++ Refused ∷ []) s.written
          (resumed left s.ahead.items).0) (sym c.resume.ensures.ahead)
          (subst (λ h. IsReachedAhead s.read (s.outcomes.all ++ Refused ∷ []) s.written
          (resumed h s.ahead.items).0 (resumed h s.ahead.items).1) (sym c.in-Ok.ensures.ok)
          (refused_ahead s.read s.outcomes.all s.written s.session s.ahead.items c.self.invariant.0 can)))),
      resting_none s.read c.then_refused-self-inside.result.all s.written c.resume.new.session c.resume.new.ahead.items,
    )

pub returns-in-Ok-clause-ok : goal.returns-in-Ok-clause-ok
returns-in-Ok-clause-ok c =
    let s = c.self.inside in
    let left = c.refuse.new.self in
    let before = reached s.read s.outcomes.all s.written s.session s.ahead.items s.ended s.failed in
    let can = can_refuse_ahead (drop (length s.outcomes.all) (calls_of (turns s.read))) s.ahead.items s.session
    c.self.invariant.0.may_be c.self.invariant.0.reached.asked
    (subst (λ v. MayRefuse v.waiting) (sym c.self.view_is) c.requires.may_refuse) in
    subst (λ v. HasOutcome (Refused) v
    (reached s.read c.then_refused-self-inside.result.all s.written c.resume.new.session c.resume.new.ahead.items
    s.ended s.failed))
    c.self.view_is
    (subst (λ os. HasOutcome (Refused) before
    (reached s.read os s.written c.resume.new.session c.resume.new.ahead.items s.ended s.failed))
    (sym c.then_refused-self-inside.ensures)
    (subst (λ h. HasOutcome (Refused) before
    (reached s.read (s.outcomes.all ++ Refused ∷ []) s.written h c.resume.new.ahead.items s.ended s.failed))
    (sym c.resume.ensures.session)
    (subst (λ a. HasOutcome (Refused) before
    (reached s.read (s.outcomes.all ++ Refused ∷ []) s.written (resumed left s.ahead.items).0 a s.ended s.failed))
    (sym c.resume.ensures.ahead)
    (subst (λ h. HasOutcome (Refused) before
    (reached s.read (s.outcomes.all ++ Refused ∷ []) s.written (resumed h s.ahead.items).0
    (resumed h s.ahead.items).1 s.ended s.failed)) (sym c.in-Ok.ensures.ok)
    (seen_refused_ahead s.read s.outcomes.all s.written s.session s.ahead.items s.ended s.failed c.self.invariant.0
    can)))))
