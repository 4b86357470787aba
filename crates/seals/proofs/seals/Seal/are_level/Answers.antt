use Rattle.std.proofs.Common.{sym, ◌∙◌}
use Rattle.seals.specs.Seals.{is_level}
use Rattle.seals.proofs.Lanes.{below_none, below_true, below_false}
use Rattle.seals.proofs.seals.Seal.are_level.Goals as goal
use Rattle.seals.proofs.seals.Seal.are_level.Goals.{then-level, else-level}

pub loop-i-init : goal.loop-i-init
loop-i-init c = sym (below_none (is_level c.args.self.now c.args.numbers))

pub loop-i-preserved : goal.loop-i-preserved
loop-i-preserved c = elim c.if-level.branch [
  | then-level w ↦ w.level-is ∙ w.is_level-level.ensures
      ∙ sym (below_true (is_level c.args.self.now c.args.numbers) c.loop-i.i c.loop-i.level c.loop-i.invariant
      w.if-level.true)
  | else-level w ↦ w.level-is ∙ w.if-level.false
      ∙ sym (below_false (is_level c.args.self.now c.args.numbers) c.loop-i.i c.loop-i.level c.loop-i.invariant
      w.if-level.false)
]
