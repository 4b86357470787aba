use Rattle.std.proofs.Common.{◌≡◌, ◌++◌, flat_map}
use Rattle.schedules.specs.Settling.{first_numbers}
use Rattle.traces.specs.Ends.{server_of}
use Rattle.traces.proofs.ends.put_servers_below.Given as goal

abbrev pub invariant-loop-i : goal.invariant-loop-i
invariant-loop-i l = l.text ≡ l.initial.text ++ flat_map (server_of l.trace.world) (first_numbers l.i)
