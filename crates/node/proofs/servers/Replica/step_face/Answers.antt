use Rattle.std.proofs.Common.{rules, ◌≡◌, ◌∙◌, ap}
use Rattle.versions.specs.Stores.{last_number}
use Rattle.node.specs.Steps.{taken_in}
use Rattle.node.specs.Faces.{face_changed, face_of, steps_by, acked_by}
use Rattle.node.proofs.RuleLaws.{good-taken_in, lawful-step}
use Rattle.node.proofs.Addresses.{others_taken_in}
use Rattle.node.proofs.Fitness.{fit_taken_in}
use Rattle.node.proofs.Growth.{last-grown}
use Rattle.node.proofs.DoneSteps.{rule_taken_in}
use Rattle.node.proofs.FaceChanges.{face-changed}
use Rattle.node.proofs.servers.Replica.step_face.Goals as goal

-- what an input does leaves a server sound, as the floor's rise needs
pub trim-requires : goal.trim-requires
trim-requires c =
    let good = good-taken_in c.args.self.now c.args.input c.requires.input c.hold_entry.ensures
    (record { sound = c.requires.lawful.sound; settled = c.requires.lawful.settled }) in
    record { chain = rw c.in_ok-take_in.ensures.state good.sound }

-- a step leaves a server lawful
pub returns-clause-lawful : goal.returns-clause-lawful
returns-clause-lawful c =
    rw (c.trim.ensures, c.in_ok-take_in.ensures.state)
    (lawful-step c.args.self.now c.args.input c.requires.input c.hold_entry.ensures c.requires.lawful)

-- the messages of a step go to other servers of the chain
pub returns-clause-addressed : goal.returns-clause-addressed
returns-clause-addressed c =
    rw (c.in_ok-take_in.ensures.outputs, c.new-outputs.ensures.items)
    (others_taken_in c.args.self.now c.args.input c.requires.lawful.sound c.requires.lawful.settled)

-- the last number before the input is still from the floor to the last number
pub change_after-requires : goal.change_after-requires
change_after-requires c =
    let before : c.last-before.result ≡ last_number c.args.self.now.store = search rules in
    let between = last-grown c.args.self.now (taken_in c.args.self.now c.args.input).state
    (rule_taken_in c.args.self.now c.args.input c.requires.lawful.sound c.requires.lawful.settled c.requires.input
    c.hold_entry.ensures).grows in
    record { above = rw (before, c.in_ok-take_in.ensures.state) between }

-- the change that is given with the step makes of the face before it the face after it
pub returns-clause-face : goal.returns-clause-face
returns-clause-face c =
    let by : c.in_ok-change.change.steps.items ≡ steps_by c.args.self.now c.args.input = search rules in
    let to : c.in_ok-change.change.acked ≡ acked_by c.args.self.now c.args.input = search rules in
    ap (λ xs. face_changed (face_of c.args.self.now) xs c.in_ok-change.change.acked) by
    ∙ ap (λ n. face_changed (face_of c.args.self.now) (steps_by c.args.self.now c.args.input) n) to
    ∙ face-changed c.args.self.now c.args.input c.requires.input c.hold_entry.ensures c.requires.lawful

-- the messages of a step may be sent, and handed in where they go
pub returns-clause-fit : goal.returns-clause-fit
returns-clause-fit c =
    rw (c.in_ok-take_in.ensures.outputs, c.new-outputs.ensures.items)
    (fit_taken_in c.args.self.now c.args.input c.requires.input c.hold_entry.ensures c.requires.lawful)
