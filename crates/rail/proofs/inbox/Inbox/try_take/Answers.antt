use Rattle.crossbeam_channel.specs.Claims.{view}
use Rattle.rail.proofs.Delivering.{takes}
use Rattle.rail.proofs.inbox.Inbox.try_take.Goals as goal

pub try_recv_as-requires-clause-rule : goal.try_recv_as-requires-clause-rule
try_recv_as-requires-clause-rule g c =
    let me = c.args.self.now in
    rw (me.gets) (takes me.pass.id (view me.pass).made (view me.pass).ports (view me.pass).got, λ items views h at. tt)
