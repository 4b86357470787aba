use Rattle.std.proofs.Common.{◌≡◌, ◌++◌, take, flat_map}
use Rattle.schedules.specs.Escapes.{escape}
use Rattle.schedules.proofs.printing.push_part.Given as goal

-- so far the first bytes of the part were written, escaped
abbrev pub invariant-loop-b : goal.invariant-loop-b
invariant-loop-b l = l.text.items ≡ l.initial.text.items ++ flat_map escape (take l.b-index l.part)
