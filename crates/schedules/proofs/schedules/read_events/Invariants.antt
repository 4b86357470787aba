use Rattle.std.proofs.Common.{◌≡◌, length}
use Rattle.schedules.specs.Schedules.{events_of}
use Rattle.schedules.proofs.Readings.{with_earlier}
use Rattle.schedules.proofs.schedules.read_events.Given as goal

-- the events so far with what the lines that are left say are what all say
abbrev pub invariant-loop-line : goal.invariant-loop-line
invariant-loop-line l = with_earlier l.events.items (events_of l.count l.connections l.lines.counted)
    ≡ events_of l.count l.connections l.initial.lines.counted

-- each round one line that counts less is left
abbrev pub decreases-loop-line : goal.decreases-loop-line
decreases-loop-line l = length l.lines.counted
