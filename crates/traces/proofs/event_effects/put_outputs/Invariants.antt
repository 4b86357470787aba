use Rattle.std.proofs.Common.{◌≡◌, ◌++◌, take, flat_map}
use Rattle.traces.specs.EventEffects.{output_line}
use Rattle.traces.proofs.event_effects.put_outputs.Given as goal

abbrev pub invariant-loop-output : goal.invariant-loop-output
invariant-loop-output l = l.text ≡ l.initial.text ++ flat_map (output_line l.input) (take l.output-index l.outputs)
