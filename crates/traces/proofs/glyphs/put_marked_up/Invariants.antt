use Rattle.std.proofs.Common.{◌≡◌, ◌++◌, take, flat_map}
use Rattle.std.specs.String.{string_bytes}
use Rattle.traces.specs.Glyphs.{marked_up}
use Rattle.traces.proofs.glyphs.put_marked_up.Given as goal

abbrev pub invariant-loop-b : goal.invariant-loop-b
invariant-loop-b l =
    string_bytes l.out ≡ string_bytes l.initial.out ++ flat_map marked_up (take l.b-index l.words)
