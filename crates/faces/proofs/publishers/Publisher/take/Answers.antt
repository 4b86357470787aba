use Rattle.std.proofs.Common.{◌≡◌, ◌∙◌, ap, sym, subst}
use Rattle.faces.specs.Histories.{History, with_next}
use Rattle.faces.specs.Publishers.{IsShowing}
use Rattle.faces.proofs.BoardRuleLaws.{when_ok}
use Rattle.faces.proofs.Stepping.{face_next, later_next, node_next, outputs_of}
use Rattle.faces.proofs.publishers.Publisher.take.Goals as goal

pub publish-writer-requires-clause-later : goal.publish-writer-requires-clause-later
publish-writer-requires-clause-later g c =
    let me = c.self.inside in
    let kept = subst (λ o. IsShowing o me.node me.log me.published) (sym c.in-Some.ensures.value) c.self.invariant in
    later_next me.published c.in-Some.writer.desk.shown.value.history c.in-Some-next.log_position c.args.input
    kept.1.history
    (c.in-Some-next.ensures ∙ ap (λ (x : History). with_next x c.args.input) c.log_position.ensures)

pub publish-writer-requires-clause-face : goal.publish-writer-requires-clause-face
publish-writer-requires-clause-face g c =
    let me = c.self.inside in
    let kept = subst (λ o. IsShowing o me.node me.log me.published) (sym c.in-Some.ensures.value) c.self.invariant in
    face_next me.published c.in-Some-next.log_position me.node c.args.input c.in-Some.writer.desk.shown.value.face
    c.in-Ok.change.steps.items c.in-Ok.change.acked kept.0.0 kept.1.face
    (c.in-Some-next.ensures ∙ ap (λ (x : History). with_next x c.args.input) c.log_position.ensures)
    c.in-Ok.ensures.face

pub invariant_of-self-2 : goal.invariant_of-self-2
invariant_of-self-2 g c =
    let me = c.self.inside in
    let kept = subst (λ o. IsShowing o me.node me.log me.published) (sym c.in-Some.ensures.value) c.self.invariant in
    let shown = when_ok c.publish-writer.result.1 _ _ _ c.in-Ok-shown.is c.publish-writer.ensures in
    let next : c.in-Ok-shown.published ≡ with_next me.published c.args.input =
    shown.1 ∙ (c.in-Some-next.ensures ∙ ap (λ (x : History). with_next x c.args.input) c.log_position.ensures) in
    subst (λ o. IsShowing o c.step_face.new.self me.log c.in-Ok-shown.published) (sym c.replace.ensures.after) (
      (
        node_next me.published c.in-Ok-shown.published me.node c.step_face.new.self c.args.input kept.0.0 next
            c.in-Ok.ensures.state,
        ap (λ (x : History). x.instance.book) next ∙ kept.0.1,
      ),
      shown.0,
    )

pub returns-clause-outputs : goal.returns-clause-outputs
returns-clause-outputs g c =
    let me = c.self.inside in
    let kept = subst (λ o. IsShowing o me.node me.log me.published) (sym c.in-Some.ensures.value) c.self.invariant in
    let shown = when_ok c.publish-writer.result.1 _ _ _ c.in-Ok-shown.is c.publish-writer.ensures in
    let next : c.in-Ok-shown.published ≡ with_next me.published c.args.input =
    shown.1 ∙ (c.in-Some-next.ensures ∙ ap (λ (x : History). with_next x c.args.input) c.log_position.ensures) in
    outputs_of me.published c.in-Ok-shown.published me.node c.args.input c.in-Ok.outputs.items kept.0.0 next
    c.in-Ok.ensures.outputs
