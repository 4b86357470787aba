use Rattle.std.proofs.Common.{◌≡◌, ◌+◌, []}
use Rattle.crossbeam_channel.specs.Claims.{view}
use Rattle.rail.specs.Inbox.{taker}
use Rattle.rail.specs.Inlets.{inlets_from}
use Rattle.rail.proofs.servers.all_inlets.Given as goal

-- the number that was made
abbrev pub invariant-loop : goal.invariant-loop
invariant-loop l = record {
  inlets : l.inlets.items ≡ inlets_from l.fn.inbox_builder.pass.table_id (view l.fn.inbox_builder.pass).made l.counter;
  inbox_builder : view l.inbox_builder.pass ≡ taker ((view l.fn.inbox_builder.pass).made + l.counter)
      (view l.fn.inbox_builder.pass).ports [];
  inbox : l.inbox_builder.pass.table_id ≡ l.fn.inbox_builder.pass.table_id;
}
