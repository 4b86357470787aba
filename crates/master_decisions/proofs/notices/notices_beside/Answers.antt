use Rattle.std.proofs.Common.{arith, sym, ◌∙◌}
use Rattle.node.proofs.NoticeShapes.{past_failed, past_living, all_looked_at}
use Rattle.master_decisions.proofs.notices.notices_beside.Goals as goal
use Rattle.master_decisions.proofs.notices.notices_beside.Goals.{then-not-has+in_ok-push, else-not-has}

pub loop-i-preserved : goal.loop-i-preserved
loop-i-preserved c = elim c.if-not-has.branch [
  | then-not-has+in_ok-push w ↦ rw (w.given-is, w.in_ok-push.ensures.items)
      (past_living _ _ c.loop-i.i _ _ _ c.loop-i-test.true (sym c.has.ensures ∙ w.if-not-has.true) c.loop-i.invariant)
  | else-not-has w ↦ rw (w.given-is)
      (past_failed _ _ c.loop-i.i _ _ _ c.loop-i-test.true (sym c.has.ensures ∙ w.if-not-has.false) c.loop-i.invariant)
]

pub returns : goal.returns
returns c = all_looked_at _ _ c.loop-i.i _ _ _ (omega (arith, c.loop-i-test.false)) c.loop-i.invariant
