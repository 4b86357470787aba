use Rattle.crossbeam_channel.specs.Claims.{view}
use Rattle.rail.proofs.ReplyQueues.{gets}
use Rattle.rail.proofs.reply_channels.ReplyReceiver.try_take.Goals as goal

pub try_recv_as-requires-clause-rule : goal.try_recv_as-requires-clause-rule
try_recv_as-requires-clause-rule g c =
    let me = c.args.self.now in
    rw (me.takes) (gets me.pass.id _ (view me.pass).list, λ items views h at. tt)
