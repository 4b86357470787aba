use Rattle.std.proofs.Common.{sym, ◌∙◌, arith}
use Rattle.master_decisions.specs.Presence.{answers_at}
use Rattle.master_decisions.proofs.SetLaws.{among_nobody, among_other, one_among, one_outside}
use Rattle.master_decisions.proofs.presence.Presence.answering.Goals as goal
use Rattle.master_decisions.proofs.presence.Presence.answering.Goals.{then-answers, else-answers}

pub loop-i-init : goal.loop-i-init
loop-i-init c = record {
  so_far = λ k low. absurd (omega arith);
  others = λ k low. rw c.empty-answering.ensures (among_nobody k);
}

pub loop-i-preserved : goal.loop-i-preserved
loop-i-preserved c = elim c.if-answers.branch [
  | then-answers w ↦ rw (w.answering-is, w.and_one-answering.ensures.exact) (record {
    so_far = one_among (answers_at c.args.self.now.heard c.args.now c.args.beat) c.loop-i.answering c.loop-i.i
        (omega arith) (sym c.answers.ensures ∙ w.if-answers.true) c.loop-i.invariant.so_far;
    others = λ k low. among_other c.loop-i.answering c.loop-i.i k (λ same. omega (arith, same))
        ∙ c.loop-i.invariant.others k (omega arith);
  })
  | else-answers w ↦ rw w.answering-is (record {
    so_far = one_outside (answers_at c.args.self.now.heard c.args.now c.args.beat) c.loop-i.answering c.loop-i.i
        (c.loop-i.invariant.others c.loop-i.i (omega arith))
        (sym c.answers.ensures ∙ w.if-answers.false) c.loop-i.invariant.so_far;
    others = λ k low. c.loop-i.invariant.others k (omega arith);
  })
]
