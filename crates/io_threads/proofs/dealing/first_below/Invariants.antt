use Rattle.std.proofs.Common.{ℕ, ◌<◌, ◌≤◌}
use Rattle.io_threads.specs.Dealing.{of_thread}
use Rattle.io_threads.proofs.dealing.first_below.Given as goal

-- none of those before has fewer
abbrev pub invariant-loop-thread : goal.invariant-loop-thread
invariant-loop-thread l = (k : ℕ) → k < l.thread → l.dense ≤ of_thread l.connections k
