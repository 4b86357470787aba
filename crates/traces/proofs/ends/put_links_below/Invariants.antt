use Rattle.std.proofs.Common.{◌≡◌, ◌++◌, flat_map}
use Rattle.schedules.specs.Settling.{first_numbers}
use Rattle.traces.specs.Ends.{link_of}
use Rattle.traces.proofs.ends.put_links_below.Given as goal

abbrev pub invariant-loop-j : goal.invariant-loop-j
invariant-loop-j l = l.text ≡ l.initial.text ++ flat_map (link_of l.trace.world l.i) (first_numbers l.j)
