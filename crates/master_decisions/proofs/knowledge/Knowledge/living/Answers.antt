use Rattle.std.proofs.Common.{sym, ◌∙◌, arith}
use Rattle.master_decisions.specs.Knowledge.{is_living}
use Rattle.master_decisions.proofs.SetLaws.{among_nobody, among_other, one_among, one_outside}
use Rattle.master_decisions.proofs.knowledge.Knowledge.living.Goals as goal
use Rattle.master_decisions.proofs.knowledge.Knowledge.living.Goals.{then-is_living, else-is_living}

pub loop-i-init : goal.loop-i-init
loop-i-init c = record {
  so_far = λ k low. absurd (omega arith);
  others = λ k low. rw c.empty-living.ensures (among_nobody k);
}

pub loop-i-preserved : goal.loop-i-preserved
loop-i-preserved c = elim c.if-is_living.branch [
  | then-is_living w ↦ rw (w.living-is, w.and_one-living.ensures.exact) (record {
    so_far = one_among (is_living c.args.self.now) c.loop-i.living c.loop-i.i (omega arith)
        (sym c.is_living.ensures ∙ w.if-is_living.true) c.loop-i.invariant.so_far;
    others = λ k low. among_other c.loop-i.living c.loop-i.i k (λ same. omega (arith, same))
        ∙ c.loop-i.invariant.others k (omega arith);
  })
  | else-is_living w ↦ rw w.living-is (record {
    so_far = one_outside (is_living c.args.self.now) c.loop-i.living c.loop-i.i
        (c.loop-i.invariant.others c.loop-i.i (omega arith))
        (sym c.is_living.ensures ∙ w.if-is_living.false) c.loop-i.invariant.so_far;
    others = λ k low. c.loop-i.invariant.others k (omega arith);
  })
]
