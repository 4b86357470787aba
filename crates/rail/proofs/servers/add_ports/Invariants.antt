use Rattle.std.proofs.Common.{◌≡◌, []}
use Rattle.crossbeam_channel.specs.Claims.{view}
use Rattle.rail.specs.Inbox.{taker}
use Rattle.rail.proofs.servers.add_ports.Given as goal

-- the number that was added
abbrev pub invariant-loop : goal.invariant-loop
invariant-loop l = record {
  inbox_builder : view l.inbox_builder.pass ≡ taker 0 l.counter [];
  inbox : l.inbox_builder.pass.table_id ≡ l.fn.inbox_builder.pass.table_id;
}
