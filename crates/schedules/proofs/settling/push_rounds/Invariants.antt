use Rattle.std.proofs.Common.{◌≡◌, ◌++◌}
use Rattle.std.specs.List.{repeat}
use Rattle.schedules.specs.Settling.{round}
use Rattle.schedules.proofs.settling.push_rounds.Given as goal

-- so far as many rounds were added as were counted
abbrev pub invariant-loop : goal.invariant-loop
invariant-loop l = l.events.items ≡ l.initial.events.items ++ repeat l.counter (round l.pairs.items l.connections)
