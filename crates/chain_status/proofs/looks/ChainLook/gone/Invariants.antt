use Rattle.std.proofs.Common.{◌≡◌, take}
use Rattle.chain_status.specs.Answers.{gone_by}
use Rattle.chain_status.proofs.looks.ChainLook.gone.Given as goal

-- those that the answers so far say
abbrev pub invariant-loop-answer : goal.invariant-loop-answer
invariant-loop-answer l = l.gone ≡ gone_by (take l.answer-index l.answer-items)
