use Rattle.std.proofs.Common.{◌≡◌, rules, true}
use Rattle.node.specs.Steps.{is_heard}
use Rattle.node.proofs.DoneSteps.{heard}
use Rattle.node.proofs.RuleLaws.{good-join, when_ok}
use Rattle.node.proofs.servers.Replica.from_peer.Goals as goal

-- a server is sound with the message's view joined, as taking in the body needs
pub receive-requires-clause-chain : goal.receive-requires-clause-chain
receive-requires-clause-chain c =
    let is : is_heard c.args.self.now c.args.i c.args.peer.view ≡ true = search rules in
    let h = heard c.args.self.now c.args.i c.args.peer.view is in
    rw (when_ok c.join.result _ _ c.in-Ok.is c.join.ensures).state
    (good-join c.args.self.now c.args.peer.view h.below h.outside
    (record { sound = c.requires.lawful.sound; settled = c.requires.lawful.settled })).sound
