use Rattle.std.proofs.Common.{◌≡◌, replicate}
use Rattle.master_decisions.specs.Knowledge.{nothing}
use Rattle.master_decisions.proofs.knowledge.Knowledge.new.Given as goal

abbrev pub invariant-loop : goal.invariant-loop
invariant-loop l = l.all.items ≡ replicate l.counter nothing
