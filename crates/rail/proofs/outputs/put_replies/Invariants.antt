use Rattle.std.proofs.Common.{◌≡◌, ◌++◌, List}
use Rattle.std.specs.Vec.Iter.{into_iter_items}
use Rattle.node.specs.declared.messages.Output.{Output}
use Rattle.rail.specs.Turns.{AreReplySenders, HasReplied}
use Rattle.rail.proofs.outputs.put_replies.Given as goal

-- the replies of the outputs so far are put
abbrev pub invariant-loop-output : goal.invariant-loop-output
invariant-loop-output g l =
    (done : List Output) × (l.fn.outputs.items ≡ done ++ into_iter_items l.output-iterator)
    × AreReplySenders l.published.instance 0 l.reply_senders.items
    × HasReplied l.published 0 l.fn.reply_senders.items l.reply_senders.items done
