use Rattle.std.proofs.Common.{rules, ◌≡◌, ◌∙◌, ap, slice_index_or}
use Rattle.node.specs.Steps.{step}
use Rattle.node.specs.Standings.{standing}
use Rattle.world.specs.Worlds.{nobody}
use Rattle.world.proofs.bodies.ToldSteps.{stepped_at, told_is}
use Rattle.world.proofs.servers.Servers.step_telling.Goals as goal

-- what is told is what the server made of the input
pub returns-in-Ok-copies_of_outputs-clause-told : goal.returns-in-Ok-copies_of_outputs-clause-told
returns-in-Ok-copies_of_outputs-clause-told c =
    let s = slice_index_or c.args.self.now c.args.i nobody in
    let outputs : c.in-Ok-copies_of_outputs.told.items ≡ (step s c.args.input).outputs = search rules in
    let after =
    c.standing-after.ensures
    ∙ ap (λ ss. standing (slice_index_or ss c.args.i nobody)) c.in-Ok-step_logged.ensures.state
    ∙ ap standing (stepped_at c.args.self.now c.args.i (step s c.args.input).state c.requires.server) in
    told_is s c.args.input _ _ _ _ _ c.in-Ok.ensures c.standing-before.ensures c.in-Ok-step_logged.ensures.entries
    outputs after
