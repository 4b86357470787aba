use Rattle.std.proofs.Common.{◌≡◌, ◌+◌}
use Rattle.rail.specs.Servers.{reply_senders_from, seats_from}
use Rattle.rail.proofs.servers.more_seats.Given as goal

-- the number that was made
abbrev pub invariant-loop-k : goal.invariant-loop-k
invariant-loop-k l = record {
  seats : l.seats.items ≡ seats_from l.fn.published.instance l.fn.first l.k;
  reply_senders : l.reply_senders.items ≡ reply_senders_from l.fn.published.instance 0 (l.fn.first + l.k);
}
