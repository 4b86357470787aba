use Rattle.crossbeam_channel.specs.Claims.{view}
use Rattle.rail.proofs.Delivering.{takes}
use Rattle.rail.proofs.inbox.Inbox.take.Goals as goal

pub recv_as-requires-clause-rule : goal.recv_as-requires-clause-rule
recv_as-requires-clause-rule g c =
    let me = c.loop.self in
    rw (me.gets) (takes me.pass.id (view me.pass).made (view me.pass).ports (view me.pass).got, λ items views h at. tt)
