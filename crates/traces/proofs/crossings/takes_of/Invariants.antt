use Rattle.std.proofs.Common.{◌≡◌, ◌++◌, drop}
use Rattle.traces.specs.Crossings.{takes_from}
use Rattle.traces.proofs.crossings.takes_of.Given as goal

abbrev pub invariant-loop-place : goal.invariant-loop-place
invariant-loop-place l = l.takes.items ++ takes_from l.homes l.events l.place l.row (drop l.place l.event_effects)
    ≡ takes_from l.homes l.events 0 0 l.event_effects
