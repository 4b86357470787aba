use Rattle.std.proofs.Common.{take, []}
use Rattle.faces.specs.Histories.{History}
use Rattle.rail.specs.Turns.{AreClosed, HasReplied}
use Rattle.rail.proofs.outputs.close_all.Given as goal

-- nothing was replied, and the ones so far are closed
abbrev pub invariant-loop-k : goal.invariant-loop-k
invariant-loop-k l = record {
  replies : (c : History) → HasReplied c 0 l.fn.reply_senders.items l.reply_senders.items [];
  closed : AreClosed (take l.k l.reply_senders.items);
}
