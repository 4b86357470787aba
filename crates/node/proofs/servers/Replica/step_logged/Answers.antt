use Rattle.std.proofs.Common.{rules, ◌≡◌}
use Rattle.versions.specs.Stores.{last_number}
use Rattle.node.specs.Steps.{taken_in}
use Rattle.node.proofs.RuleLaws.{good-taken_in, lawful-step}
use Rattle.node.proofs.Fitness.{fit_taken_in}
use Rattle.node.proofs.Growth.{last-grown}
use Rattle.node.proofs.DoneSteps.{rule_taken_in}
use Rattle.node.proofs.servers.Replica.step_logged.Goals as goal

-- what an input does leaves a server sound, as the floor's rise needs
pub trim-requires : goal.trim-requires
trim-requires c =
    let good = good-taken_in c.args.self.now c.args.input c.requires.input c.hold_entry.ensures
    (record { sound = c.requires.lawful.sound; settled = c.requires.lawful.settled }) in
    record { chain = rw c.in_ok-take_in.ensures.state good.sound }

-- a step leaves a server lawful
pub returns-clause-lawful : goal.returns-clause-lawful
returns-clause-lawful c =
    rw (c.trim.ensures, c.in_ok-take_in.ensures.state)
    (lawful-step c.args.self.now c.args.input c.requires.input c.hold_entry.ensures c.requires.lawful)

-- the last number before the input is still from the floor to the last number
pub entries_above-requires : goal.entries_above-requires
entries_above-requires c =
    let before : c.last-before.result ≡ last_number c.args.self.now.store = search rules in
    let between = last-grown c.args.self.now (taken_in c.args.self.now c.args.input).state
    (rule_taken_in c.args.self.now c.args.input c.requires.lawful.sound c.requires.lawful.settled c.requires.input
    c.hold_entry.ensures).grows in
    record { above = rw (before, c.in_ok-take_in.ensures.state) between }

-- the messages of a step may be sent, and handed in where they go
pub returns-clause-fit : goal.returns-clause-fit
returns-clause-fit c =
    rw (c.in_ok-take_in.ensures.outputs, c.new-outputs.ensures.items)
    (fit_taken_in c.args.self.now c.args.input c.requires.input c.hold_entry.ensures c.requires.lawful)
