use Rattle.std.proofs.Common.{◌≡◌}
use Rattle.crossbeam_channel.specs.Claims.{view}
use Rattle.rail.proofs.inbox.Inbox.take.Given as goal

-- nothing was taken so far
abbrev pub invariant-loop : goal.invariant-loop
invariant-loop g l = record {
  known : view l.self.pass ≡ view l.fn.self.pass;
  inbox : l.self.pass.table_id ≡ l.fn.self.pass.table_id;
}
