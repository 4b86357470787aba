use Rattle.node.proofs.RuleLaws.{good-taken_in, lawful-step}
use Rattle.node.proofs.Addresses.{others_taken_in}
use Rattle.node.proofs.Fitness.{fit_taken_in}
use Rattle.node.proofs.servers.Replica.step.Goals as goal

-- what an input does leaves a server sound, as the floor's rise needs
pub trim-requires : goal.trim-requires
trim-requires c =
    let good = good-taken_in c.args.self.now c.args.input c.requires.input c.hold_entry.ensures
    (record { sound = c.requires.lawful.sound; settled = c.requires.lawful.settled }) in
    record { chain = rw c.in_ok-take_in.ensures.state good.sound }

-- a step leaves a server lawful
pub returns-clause-lawful : goal.returns-clause-lawful
returns-clause-lawful c =
    rw (c.trim.ensures, c.in_ok-take_in.ensures.state)
    (lawful-step c.args.self.now c.args.input c.requires.input c.hold_entry.ensures c.requires.lawful)

-- the messages of a step go to other servers of the chain
pub returns-clause-addressed : goal.returns-clause-addressed
returns-clause-addressed c =
    rw (c.in_ok-take_in.ensures.outputs, c.new-outputs.ensures.items)
    (others_taken_in c.args.self.now c.args.input c.requires.lawful.sound c.requires.lawful.settled)

-- the messages of a step may be sent, and handed in where they go
pub returns-clause-fit : goal.returns-clause-fit
returns-clause-fit c =
    rw (c.in_ok-take_in.ensures.outputs, c.new-outputs.ensures.items)
    (fit_taken_in c.args.self.now c.args.input c.requires.input c.hold_entry.ensures c.requires.lawful)
