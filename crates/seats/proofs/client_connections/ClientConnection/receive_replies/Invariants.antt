use Rattle.std.proofs.Common.{◌≡◌, MatchBool}
use Rattle.faces.specs.Histories.{IsLater}
use Rattle.seats.specs.ClientConnections.{HasHeard, HasHeardInTurn, IsFurther, seats_open}
use Rattle.seats.specs.SeatPools.{HasNoFault, HasSentNothing}
use Rattle.seats.proofs.client_connections.ClientConnection.receive_replies.Given as goal

abbrev pub invariant-loop : goal.invariant-loop
invariant-loop g l =
    record {
      known : IsLater l.self.seen l.pool.seen;
      later : IsLater l.fn.pool.seen l.pool.seen;
      first : l.self.first ≡ l.fn.self.first;
      further : IsFurther l.fn.self.connected l.self.connected;
      looks : l.pool.looks ≡ l.fn.pool.looks;
      unsent : HasSentNothing l.fn.pool l.pool;
      heard : MatchBool l.any (HasHeard l.fn.self l.self) (l.self ≡ l.fn.self);
      in_turn : HasHeardInTurn l.fn.self l.self l.fn.pool l.pool (seats_open l.self.standing l.self.ahead);
      unfailed : HasNoFault l.fn.pool l.pool;
    }
