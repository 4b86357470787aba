use Rattle.std.proofs.Common.{sym, ◌∙◌}
use Rattle.seals.specs.Seals.{has_passed}
use Rattle.seals.proofs.Lanes.{below_none, below_true, below_false}
use Rattle.seals.proofs.seals.have_passed.Goals as goal
use Rattle.seals.proofs.seals.have_passed.Goals.{then-all, else-all}

pub loop-thread-init : goal.loop-thread-init
loop-thread-init c = sym (below_none (has_passed c.args.passed.now))

pub loop-thread-preserved : goal.loop-thread-preserved
loop-thread-preserved c = elim c.if-all.branch [
  | then-all w ↦ w.all-is ∙ w.has_passed-all.ensures
      ∙ sym (below_true (has_passed c.args.passed.now) c.loop-thread.thread c.loop-thread.all c.loop-thread.invariant
      w.if-all.true)
  | else-all w ↦ w.all-is ∙ w.if-all.false
      ∙ sym (below_false (has_passed c.args.passed.now) c.loop-thread.thread c.loop-thread.all c.loop-thread.invariant
      w.if-all.false)
]
