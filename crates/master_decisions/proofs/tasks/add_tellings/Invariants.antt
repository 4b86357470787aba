use Rattle.std.proofs.Common.{◌≡◌, ◌++◌, map, take}
use Rattle.master_decisions.specs.Tasks.{telling}
use Rattle.master_decisions.proofs.tasks.add_tellings.Given as goal

abbrev pub invariant-loop-notice : goal.invariant-loop-notice
invariant-loop-notice l =
    l.wanted.items ≡ l.initial.wanted.items ++ map (telling l.order) (take l.notice-index l.given)
