use Rattle.std.proofs.Common.{◌≡◌, ◌++◌, take, flat_map}
use Rattle.world.specs.Worlds.{link}
use Rattle.traces.specs.Ends.{message_line}
use Rattle.traces.proofs.ends.put_link.Given as goal

abbrev pub invariant-loop-k : goal.invariant-loop-k
invariant-loop-k l = l.text ≡ l.initial.text ++ flat_map (message_line l.i l.j) (take l.k (link l.trace.world l.i l.j))
