use Rattle.std.proofs.Common.{◌≡◌, take}
use Rattle.chain_status.specs.Faults.{with_found}
use Rattle.chain_status.proofs.checks.add_found.Given as goal

-- those before, and those of the ones so far that were found
abbrev pub invariant-loop-one : goal.invariant-loop-one
invariant-loop-one l = l.kept.items ≡ with_found l.fn.kept.items (take l.one-index l.found)
