use Rattle.std.proofs.Common.{◌≡◌, ◌-◌, [], length, false}
use Rattle.serving.specs.declared.connections.TheConstants.{OUTPUT}
use Rattle.serving.specs.Connections.{IsLooked}
use Rattle.serving.proofs.connections.Connection.next.Given as goal

abbrev pub invariant-turns : goal.invariant-turns
invariant-turns l =
    record {
      idle : l.self.waiting ≡ [];
      looked : IsLooked l.fn.self l.self;
      unfailed : l.self.failed ≡ false;
    }

abbrev pub decreases-turns : goal.decreases-turns
decreases-turns l = OUTPUT - length l.self.due
