use Rattle.std.proofs.Common.{ap, refl, subst}
use Rattle.crossbeam_channel.specs.Claims.{view}
use Rattle.crossbeam_channel.specs.Ends.{sends_on, ruled_capacity}
use Rattle.rail.specs.declared.inbox.InboxKnowledge.{InboxKnowledge}
use Rattle.rail.specs.InboxMessages.{IsBelow}
use Rattle.rail.proofs.Delivering.{sends}
use Rattle.rail.proofs.inbox.SenderWithPass.send.Goals as goal

pub send_as-requires-clause-rule : goal.send_as-requires-clause-rule
send_as-requires-clause-rule g c =
    let me = c.args.self.now in
    let ports = ap (λ (v : InboxKnowledge). v.ports) me.sends in
    let below = subst (λ n. IsBelow n c.args.inbox_message) ports c.requires in
    rw (me.sends) (
      sends (ruled_capacity (sends_on me.to)) me.pass.id me.from me.ports (view me.pass).put _ refl below,
      λ items views h at. tt,
    )
