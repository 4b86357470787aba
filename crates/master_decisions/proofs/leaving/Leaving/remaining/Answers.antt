use Rattle.std.proofs.Common.{sym, ◌∙◌, arith}
use Rattle.master_decisions.specs.Leaving.{remains}
use Rattle.master_decisions.proofs.SetLaws.{among_nobody, among_other, one_among, one_outside}
use Rattle.master_decisions.proofs.leaving.Leaving.remaining.Goals as goal
use Rattle.master_decisions.proofs.leaving.Leaving.remaining.Goals.{then-remains, else-remains}

pub loop-i-init : goal.loop-i-init
loop-i-init c = record {
  so_far = λ k low. absurd (omega arith);
  others = λ k low. rw c.empty-remaining.ensures (among_nobody k);
}

pub loop-i-preserved : goal.loop-i-preserved
loop-i-preserved c = elim c.if-remains.branch [
  | then-remains w ↦ rw (w.remaining-is, w.and_one-remaining.ensures.exact) (record {
    so_far = one_among (remains c.args.self.now.told c.args.living) c.loop-i.remaining c.loop-i.i (omega arith)
        (sym c.remains.ensures ∙ w.if-remains.true) c.loop-i.invariant.so_far;
    others = λ k low. among_other c.loop-i.remaining c.loop-i.i k (λ same. omega (arith, same))
        ∙ c.loop-i.invariant.others k (omega arith);
  })
  | else-remains w ↦ rw w.remaining-is (record {
    so_far = one_outside (remains c.args.self.now.told c.args.living) c.loop-i.remaining c.loop-i.i
        (c.loop-i.invariant.others c.loop-i.i (omega arith))
        (sym c.remains.ensures ∙ w.if-remains.false) c.loop-i.invariant.so_far;
    others = λ k low. c.loop-i.invariant.others k (omega arith);
  })
]
