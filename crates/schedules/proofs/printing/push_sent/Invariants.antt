use Rattle.std.proofs.Common.{◌≡◌, ◌++◌, length}
use Rattle.schedules.specs.Printing.{sent_text}
use Rattle.schedules.proofs.printing.push_sent.Given as goal

-- the text so far with that of what is left is the text of all that was sent
abbrev pub invariant-loop-rest : goal.invariant-loop-rest
invariant-loop-rest l = l.text.items ++ sent_text l.rest ≡ l.initial.text.items ++ sent_text l.initial.rest

-- each round less of it is left
abbrev pub decreases-loop-rest : goal.decreases-loop-rest
decreases-loop-rest l = length l.rest
