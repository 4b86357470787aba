use Rattle.crossbeam_channel.specs.Claims.{view}
use Rattle.rail.proofs.ReplyQueues.{gets}
use Rattle.rail.proofs.reply_channels.ReplyReceiver.take.Goals as goal

pub recv_as-requires-clause-rule : goal.recv_as-requires-clause-rule
recv_as-requires-clause-rule g c =
    let me = c.loop.self in
    rw (me.takes) (gets me.pass.id _ (view me.pass).list, λ items views h at. tt)
