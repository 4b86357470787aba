use Rattle.std.proofs.Common.{◌≡◌, ◌++◌, take, flat_map}
use Rattle.traces.specs.EventEffects.{appended_line}
use Rattle.traces.proofs.event_effects.put_entries.Given as goal

abbrev pub invariant-loop-entry : goal.invariant-loop-entry
invariant-loop-entry l = l.text ≡ l.initial.text ++ flat_map appended_line (take l.entry-index l.entries)
