use Rattle.std.proofs.Common.{All}
use Rattle.seats.specs.SeatPools.{HasSameReader, HasSentNothing, IsAt}
use Rattle.seats.proofs.ahead.leave_all.Given as goal

abbrev pub invariant-loop : goal.invariant-loop
invariant-loop l =
    record {
      here : All (IsAt l.pool.seen.instance) l.ahead.items;
      same : HasSameReader l.fn.pool l.pool;
      unsent : HasSentNothing l.fn.pool l.pool;
    }
