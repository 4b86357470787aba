use Rattle.std.proofs.Common.{[], ◌∷◌, ◌++◌, length, drop, sym, subst}
use Rattle.proto.specs.Turns.{Replied, calls_of}
use Rattle.proto.specs.Streams.{turns}
use Rattle.serving.specs.Connections.{HasOutcome, IsReachedAhead, MayHave, reached, resumed}
use Rattle.serving.proofs.GoingAhead.{can_answer_ahead, answered_ahead, seen_answered_ahead}
use Rattle.serving.proofs.Resting.{resting_none}
use Rattle.serving.proofs.connections.Connection.answer.Goals as goal

pub invariant_of-self : goal.invariant_of-self
invariant_of-self c =
    let s = c.self.inside in
    let left = c.answer.new.self in
    let can = can_answer_ahead (drop (length s.outcomes.all) (calls_of (turns s.read))) s.ahead.items s.session
    c.args.reply.now
    c.self.invariant.0.may_be c.self.invariant.0.reached.asked
    (subst (λ v. MayHave v.waiting c.args.reply.now) (sym c.self.view_is) c.requires.may_have) in (
      subst (λ os. IsReachedAhead s.read os s.written c.resume.new.session c.resume.new.ahead.items)
          (sym c.then-self-inside.ensures)
          (subst (λ h. IsReachedAhead s.read (s.outcomes.all ++ Replied c.args.reply.now ∷ []) s.written h
          c.resume.new.ahead.items)
          (sym c.resume.ensures.session)
          (subst (IsReachedAhead s.read (s.outcomes.all ++ Replied c.args.reply.now ∷ []) s.written
          (resumed left s.ahead.items).0) (sym c.resume.ensures.ahead)
          (subst (λ h. IsReachedAhead s.read (s.outcomes.all ++ Replied c.args.reply.now ∷ []) s.written
          (resumed h s.ahead.items).0 (resumed h s.ahead.items).1) (sym c.in-Ok.ensures.ok)
          (answered_ahead s.read s.outcomes.all c.args.reply.now s.written s.session s.ahead.items c.self.invariant.0
          can)))),
      resting_none s.read c.then-self-inside.result.all s.written c.resume.new.session c.resume.new.ahead.items,
    )

pub returns-in-Ok-clause-ok : goal.returns-in-Ok-clause-ok
returns-in-Ok-clause-ok c =
    let s = c.self.inside in
    let left = c.answer.new.self in
    let before = reached s.read s.outcomes.all s.written s.session s.ahead.items s.ended s.failed in
    let can = can_answer_ahead (drop (length s.outcomes.all) (calls_of (turns s.read))) s.ahead.items s.session
    c.args.reply.now
    c.self.invariant.0.may_be c.self.invariant.0.reached.asked
    (subst (λ v. MayHave v.waiting c.args.reply.now) (sym c.self.view_is) c.requires.may_have) in
    subst (λ v. HasOutcome (Replied c.args.reply.now) v
    (reached s.read c.then-self-inside.result.all s.written c.resume.new.session c.resume.new.ahead.items s.ended
    s.failed))
    c.self.view_is
    (subst (λ os. HasOutcome (Replied c.args.reply.now) before
    (reached s.read os s.written c.resume.new.session c.resume.new.ahead.items s.ended s.failed))
    (sym c.then-self-inside.ensures)
    (subst (λ h. HasOutcome (Replied c.args.reply.now) before
    (reached s.read (s.outcomes.all ++ Replied c.args.reply.now ∷ []) s.written h c.resume.new.ahead.items s.ended
    s.failed))
    (sym c.resume.ensures.session)
    (subst (λ a. HasOutcome (Replied c.args.reply.now) before
    (reached s.read (s.outcomes.all ++ Replied c.args.reply.now ∷ []) s.written
    (resumed left s.ahead.items).0 a s.ended s.failed))
    (sym c.resume.ensures.ahead)
    (subst (λ h. HasOutcome (Replied c.args.reply.now) before
    (reached s.read (s.outcomes.all ++ Replied c.args.reply.now ∷ []) s.written (resumed h s.ahead.items).0
    (resumed h s.ahead.items).1 s.ended s.failed)) (sym c.in-Ok.ensures.ok)
    (seen_answered_ahead s.read s.outcomes.all c.args.reply.now s.written s.session s.ahead.items s.ended s.failed
    c.self.invariant.0
    can)))))
