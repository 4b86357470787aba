use Rattle.std.proofs.Common.{sym, ◌∙◌, arith}
use Rattle.master_decisions.specs.Notices.{is_silent_at}
use Rattle.master_decisions.proofs.SetLaws.{among_nobody, among_other, one_among, one_outside}
use Rattle.master_decisions.proofs.notices.silent_in.Goals as goal
use Rattle.master_decisions.proofs.notices.silent_in.Goals.{then-is_silent_at, else-is_silent_at}

pub loop-i-init : goal.loop-i-init
loop-i-init c = record {
  so_far = λ k low. absurd (omega arith);
  others = λ k low. rw c.empty-silent.ensures (among_nobody k);
}

pub loop-i-preserved : goal.loop-i-preserved
loop-i-preserved c = elim c.if-is_silent_at.branch [
  | then-is_silent_at w ↦ rw (w.silent-is, w.and_one-silent.ensures.exact) (record {
    so_far = one_among (is_silent_at c.args.answers.now c.args.gone) c.loop-i.silent c.loop-i.i (omega arith)
        (sym c.is_silent_at.ensures ∙ w.if-is_silent_at.true) c.loop-i.invariant.so_far;
    others = λ k low. among_other c.loop-i.silent c.loop-i.i k (λ same. omega (arith, same))
        ∙ c.loop-i.invariant.others k (omega arith);
  })
  | else-is_silent_at w ↦ rw w.silent-is (record {
    so_far = one_outside (is_silent_at c.args.answers.now c.args.gone) c.loop-i.silent c.loop-i.i
        (c.loop-i.invariant.others c.loop-i.i (omega arith))
        (sym c.is_silent_at.ensures ∙ w.if-is_silent_at.false) c.loop-i.invariant.so_far;
    others = λ k low. c.loop-i.invariant.others k (omega arith);
  })
]
