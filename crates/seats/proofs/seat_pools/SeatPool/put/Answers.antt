use Rattle.std.proofs.Common.{ap, arith}
use Rattle.seats.specs.SeatPools.{IsFreeAt, Pooling}
use Rattle.seats.proofs.Pooled.{all_pushed, at_reader}
use Rattle.seats.proofs.seat_pools.SeatPool.put.Goals as goal

pub invariant_of-self : goal.invariant_of-self
invariant_of-self c =
    let s = c.self.inside in
    record {
      sends = c.self.invariant.sends;
      are_free = all_pushed (IsFreeAt s.reader.seen.instance) s.free.items c.push_reserved.new.self.items c.args.free
          c.push_reserved.ensures.items c.self.invariant.are_free
          (at_reader IsFreeAt s.reader.seen c.args.self.now.seen c.args.free
          (ap (λ (p : Pooling). p.seen) c.self.view_is) c.requires);
      are_left = c.self.invariant.are_left;
      count = omega (arith, c.if-is_one_out.ensures, c.push_reserved.ensures.len);
      frees = omega (arith, c.self.invariant.frees, c.push_reserved.ensures.capacity);
      leaves = c.self.invariant.leaves;
    }
