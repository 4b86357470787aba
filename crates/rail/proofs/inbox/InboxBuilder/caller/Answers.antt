use Rattle.std.proofs.Common.{arith, []}
use Rattle.rail.proofs.Delivering.{makes}
use Rattle.rail.proofs.inbox.InboxBuilder.caller.Goals as goal

pub another-pass-requires-clause-rule : goal.another-pass-requires-clause-rule
another-pass-requires-clause-rule c =
    let ports = c.args.self.now.ports in
    rw (c.args.self.now.gets)
    (makes c.args.self.now.pass.id c.args.self.now.made ports ports ports [] (omega arith) (omega arith))
