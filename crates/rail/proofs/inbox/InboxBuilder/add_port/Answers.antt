use Rattle.std.proofs.Common.{[]}
use Rattle.rail.proofs.Delivering.{adds_port}
use Rattle.rail.proofs.inbox.InboxBuilder.add_port.Goals as goal

pub another-pass-requires-clause-rule : goal.another-pass-requires-clause-rule
another-pass-requires-clause-rule c =
    rw (c.args.self.now.gets) (adds_port c.args.self.now.pass.id c.args.self.now.made c.args.self.now.ports [])
