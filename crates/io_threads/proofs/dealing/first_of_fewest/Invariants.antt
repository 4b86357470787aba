use Rattle.std.proofs.Common.{nat_lt}
use Rattle.std.specs.List.{IsFirstBest}
use Rattle.io_threads.proofs.dealing.first_of_fewest.Given as goal

-- it is the first of those with the fewest so far
abbrev pub invariant-loop-thread : goal.invariant-loop-thread
invariant-loop-thread l = IsFirstBest nat_lt l.connections l.thread l.best
