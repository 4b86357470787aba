use Rattle.std.proofs.Common.{◌≡◌, []}
use Rattle.faces.specs.Histories.{IsLater}
use Rattle.seats.specs.ClientConnections.{HasLooked, IsFurther}
use Rattle.seats.specs.SeatPools.{HasNoFault, HasSentNothing}
use Rattle.seats.specs.declared.client_connections.CallStanding.TheVariants.{Idle}
use Rattle.seats.proofs.client_connections.ClientConnection.make_calls.Given as goal

abbrev pub invariant-loop : goal.invariant-loop
invariant-loop g l =
    record {
      idle : l.self.standing ≡ Idle;
      none : l.self.connected.waiting ≡ [];
      known : IsLater l.self.seen l.pool.seen;
      later : IsLater l.fn.pool.seen l.pool.seen;
      first : l.self.first ≡ l.fn.self.first;
      further : IsFurther l.fn.self.connected l.self.connected;
      unsent : HasSentNothing l.fn.pool l.pool;
      heard : l.self.heard ≡ l.fn.self.heard;
      unfailed : HasNoFault l.fn.pool l.pool;
      looked : HasLooked l.fn.self.connected l.self.connected l.fn.pool l.pool;
    }
