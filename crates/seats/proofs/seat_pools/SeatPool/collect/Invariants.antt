use Rattle.std.proofs.Common.{◌≡◌}
use Rattle.faces.specs.Histories.{IsLater}
use Rattle.seats.specs.SeatPools.{HasAllSeats, HasSentNothing}
use Rattle.seats.proofs.seat_pools.SeatPool.collect.Given as goal

-- the reader has seen no less, and hasn't looked, and no seat is lost
abbrev pub invariant-loop : goal.invariant-loop
invariant-loop g l = record {
  later : IsLater l.fn.self.seen l.self.seen;
  looks : l.self.looks ≡ l.fn.self.looks;
  seats : HasAllSeats l.fn.self l.self;
  unsent : HasSentNothing l.fn.self l.self;
}
