use Rattle.std.proofs.Common.{◌≡◌, ◌++◌, drop}
use Rattle.traces.specs.Crossings.{puts_from}
use Rattle.traces.proofs.crossings.puts_of.Given as goal

abbrev pub invariant-loop-event_effect : goal.invariant-loop-event_effect
invariant-loop-event_effect l =
    l.puts.items ++ puts_from l.row (drop l.event_effect-index l.event_effects) ≡ puts_from 0 l.event_effects
