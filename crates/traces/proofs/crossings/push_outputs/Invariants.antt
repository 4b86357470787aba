use Rattle.std.proofs.Common.{◌≡◌, ◌++◌, drop, map}
use Rattle.traces.specs.Crossings.{output_put}
use Rattle.traces.proofs.crossings.push_outputs.Given as goal

abbrev pub invariant-loop-output : goal.invariant-loop-output
invariant-loop-output l = l.puts.items ++ map (output_put l.row l.i) (drop l.output-index l.outputs)
    ≡ l.initial.puts.items ++ map (output_put l.row l.i) l.outputs
