use Rattle.std.proofs.Common.{◌≡◌, ◌++◌, map, take, drop}
use Rattle.master_decisions.specs.Waits.{renewed}
use Rattle.master_decisions.proofs.waits.renew_all.Given as goal

abbrev pub invariant-loop-waiting : goal.invariant-loop-waiting
invariant-loop-waiting l =
    l.all ≡ map renewed (take l.waiting-index l.initial.all) ++ drop l.waiting-index l.initial.all
