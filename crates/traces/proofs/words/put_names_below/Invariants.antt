use Rattle.std.proofs.Common.{◌≡◌, ◌++◌, flat_map}
use Rattle.schedules.specs.Settling.{first_numbers}
use Rattle.traces.specs.Words.{named}
use Rattle.traces.proofs.words.put_names_below.Given as goal

abbrev pub invariant-loop-i : goal.invariant-loop-i
invariant-loop-i l = l.text ≡ l.initial.text ++ flat_map (named l.view) (first_numbers l.i)
