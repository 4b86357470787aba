use Rattle.std.proofs.Common.{◌≡◌, ap}
use Rattle.faces.specs.Shown.{Shown, acts_of}
use Rattle.faces.specs.Showing.{pending, Shows}
use Rattle.faces.proofs.BoardRuleLaws.{changed_face, changed_later, folded_by, published_as}
use Rattle.faces.proofs.boards.publish.Goals as goal

pub show-requires-clause-later : goal.show-requires-clause-later
show-requires-clause-later g c =
    let w = c.append.new.writer in
    let change = c.args.change in
    let acts : pending w ≡ acts_of change.steps.items change.acked c.args.log_position =
    c.in-Ok.ensures.acts in
    changed_later w.desk.shown.value c.args.writer.desk.shown.value _ change.steps.items change.acked
    c.args.log_position
    (ap (λ d. d.shown.value) c.append.ensures.desk) acts c.requires.later

pub show-requires-clause-face : goal.show-requires-clause-face
show-requires-clause-face g c =
    let w = c.append.new.writer in
    let change = c.args.change in
    let acts : pending w ≡ acts_of change.steps.items change.acked c.args.log_position =
    c.in-Ok.ensures.acts in
    changed_face w.desk.shown.value c.args.writer.desk.shown.value _ change.steps.items change.acked c.args.log_position
    (ap (λ d. d.shown.value) c.append.ensures.desk) acts c.requires.face

pub returns-in-Ok : goal.returns-in-Ok
returns-in-Ok g c =
    let w = c.append.new.writer in
    let change = c.args.change in
    let acts : pending w ≡ acts_of change.steps.items change.acked c.args.log_position =
    c.in-Ok.ensures.acts in
    published_as c.show.result.1 (λ p. Shows c.show.result.0 p) _ c.args.log_position
    (ap (λ (s : Shown). s.history)
    (folded_by w.desk.shown.value _ change.steps.items change.acked c.args.log_position acts)) c.show.ensures
