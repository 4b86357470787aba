use Rattle.std.proofs.Common.{◌≡◌, ◌++◌, take, flat_map}
use Rattle.schedules.specs.Escapes.{escape}
use Rattle.traces.proofs.texts.push_all_escaped.Given as goal

abbrev pub invariant-loop-b : goal.invariant-loop-b
invariant-loop-b l = l.out.items ≡ l.initial.out.items ++ flat_map escape (take l.b-index l.bytes)
