use Rattle.std.proofs.Common.{◌≡◌, ◌++◌, flat_map}
use Rattle.schedules.specs.Settling.{first_numbers}
use Rattle.traces.specs.Ends.{links_below}
use Rattle.traces.proofs.ends.put_all_links_below.Given as goal

abbrev pub invariant-loop-i : goal.invariant-loop-i
invariant-loop-i l = l.text ≡ l.initial.text ++ flat_map (links_below l.trace.world l.count) (first_numbers l.i)
