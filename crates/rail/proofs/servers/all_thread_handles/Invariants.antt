use Rattle.std.proofs.Common.{◌≡◌, []}
use Rattle.crossbeam_channel.specs.Claims.{view}
use Rattle.rail.specs.Inbox.{taker}
use Rattle.rail.specs.Servers.{reply_senders_from, thread_handles_from}
use Rattle.rail.proofs.servers.all_thread_handles.Given as goal

-- the number that was made
abbrev pub invariant-loop-port : goal.invariant-loop-port
invariant-loop-port l = record {
  publisher : l.publisher ≡ l.fn.publisher;
  inbox_builder : view l.inbox_builder.pass ≡ taker l.port (view l.fn.inbox_builder.pass).ports [];
  inbox : l.inbox_builder.pass.table_id ≡ l.fn.inbox_builder.pass.table_id;
  thread_handles : l.thread_handles.items ≡ thread_handles_from l.fn.publisher.published.instance
      l.fn.inbox_builder.pass.table_id 0
      l.port;
  reply_senders : l.reply_senders.items ≡ reply_senders_from l.fn.publisher.published.instance 0 l.port;
}
