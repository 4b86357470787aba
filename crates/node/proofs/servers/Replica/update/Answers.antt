use Rattle.std.proofs.Common.{◌≡◌, rules, true, ap}
use Rattle.node.specs.Servers.{ServerState}
use Rattle.node.specs.Numbering.{is_room_for_update, entered}
use Rattle.node.proofs.SoundLaws.{sound-entered}
use Rattle.node.proofs.RuleLaws.{updated}
use Rattle.node.proofs.servers.Replica.update.Goals as goal

-- a server is sound with the own call entered, as taking or sending it needs
pub submit-requires-clause-chain : goal.submit-requires-clause-chain
submit-requires-clause-chain c =
    let same : c.in_ok-clone.field-0 ≡ c.args.call.now = search rules in
    rw (c.in_ok-enter.ensures, same)
    (sound-entered c.args.self.now c.args.port c.args.call.now c.requires.call c.requires.update c.requires.chain)

-- if there is room, an own update call enters and is then taken or sent
pub returns : goal.returns
returns c =
    let same : c.in_ok-clone.field-0 ≡ c.args.call.now = search rules in
    let room : is_room_for_update c.args.self.now ≡ true = search rules in
    let made : c.enter.new.self ≡ entered c.args.self.now c.args.port c.args.call.now =
    rw (← same) c.in_ok-enter.ensures in
    rw (
      updated c.args.self.now c.args.port c.args.call.now room,
      ← made,
      ← ap (λ (s : ServerState). s.next_id) c.self.view_is,
    ) c.submit.ensures
