use Rattle.std.proofs.Common.{◌≡◌, drop}
use Rattle.node.specs.Joining.{taken_all}
use Rattle.node.specs.Lawful.{IsSound}
use Rattle.node.proofs.servers.Replica.take_all.Given as goal

-- taking the own calls that are left, at the server so far, is taking all; it is sound, and has the same calls open
abbrev pub invariant-loop-i : goal.invariant-loop-i
invariant-loop-i l = record {
  rest : taken_all l.initial.self l.initial.self.pend ≡ taken_all l.self (drop l.i l.self.pend);
  pend : l.self.pend ≡ l.initial.self.pend;
  sound : IsSound l.self;
}
