use Rattle.std.proofs.Common.{ap, arith}
use Rattle.seats.specs.SeatPools.{IsAt, Pooling}
use Rattle.seats.proofs.Pooled.{all_pushed, at_reader}
use Rattle.seats.proofs.seat_pools.SeatPool.leave.Goals as goal

pub invariant_of-self : goal.invariant_of-self
invariant_of-self c =
    let s = c.self.inside in
    record {
      sends = c.self.invariant.sends;
      are_free = c.self.invariant.are_free;
      are_left = all_pushed (IsAt s.reader.seen.instance) s.left.items c.push_back_reserved.new.self.items c.args.left
          c.push_back_reserved.ensures.items c.self.invariant.are_left
          (at_reader IsAt s.reader.seen c.args.self.now.seen c.args.left
          (ap (λ (p : Pooling). p.seen) c.self.view_is) c.requires);
      count = omega (arith, c.if-is_one_out.ensures, c.push_back_reserved.ensures.len);
      frees = c.self.invariant.frees;
      leaves = omega (arith, c.self.invariant.leaves, c.push_back_reserved.ensures.capacity);
    }
