use Rattle.std.proofs.Common.{◌≡◌, None}
use Rattle.proto.specs.Streams.{most_faults}
use Rattle.world.specs.Connections.{past_faults}
use Rattle.world.proofs.connections.next_call.Given as goal

-- what stands after the faults that are left is what stood after all of them
abbrev pub invariant-passing : goal.invariant-passing
invariant-passing l = record {
  same : past_faults l.session ≡ past_faults l.initial.session;
  idle : l.session.asked ≡ None;
}

-- each round fewer faults are to come at most
abbrev pub decreases-passing : goal.decreases-passing
decreases-passing l = most_faults l.session
