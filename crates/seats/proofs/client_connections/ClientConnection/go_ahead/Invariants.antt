use Rattle.faces.specs.Histories.{IsLater}
use Rattle.seats.specs.ClientConnections.{HasGone, HasSentInTurn, IsSameBut}
use Rattle.seats.specs.SeatPools.{HasNoFault, HasSameReader}
use Rattle.seats.specs.declared.client_connections.Pause.TheVariants.{Reply}
use Rattle.seats.proofs.client_connections.ClientConnection.go_ahead.Given as goal

abbrev pub invariant-loop : goal.invariant-loop
invariant-loop g l =
    record {
      sent : HasGone Reply l.self;
      known : IsLater l.self.seen l.pool.seen;
      same : IsSameBut l.fn.self l.self;
      pool : HasSameReader l.fn.pool l.pool;
      on : HasSentInTurn l.fn.self l.self l.fn.pool l.pool;
      unfailed : HasNoFault l.fn.pool l.pool;
    }
