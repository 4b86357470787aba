use Rattle.std.proofs.Common.{◌≡◌, drop}
use Rattle.traces.specs.Crossings as crossings
use Rattle.traces.proofs.crossings.row_after_all.Given as goal

abbrev pub invariant-loop-event_effect : goal.invariant-loop-event_effect
invariant-loop-event_effect l =
    crossings.row_after_all l.after (drop l.event_effect-index l.event_effects) ≡ crossings.row_after_all 0
    l.event_effects
