use Rattle.std.proofs.Common.{◌≡◌, ◌∙◌, ◌+◌, arith, length, refl, sym}
use Rattle.seats.specs.SeatPools.{IsAt, IsFreeAt}
use Rattle.seats.proofs.Pooled.{all_later, all_pushed, all_without, one_freed}
use Rattle.seats.proofs.seat_pools.SeatPool.collect_one.Goals as goal

pub invariant_of-self : goal.invariant_of-self
invariant_of-self g c =
    let s = c.self.inside in
    let now = c.take.new.reader.seen in
    record {
      sends = c.self.invariant.sends ∙ sym c.take.ensures.later.instance;
      are_free = all_pushed (IsFreeAt now.instance) s.free.items c.push_reserved.new.self.items c.take.new.self
          c.push_reserved.ensures.items
          (all_later IsFreeAt s.reader.seen now s.free.items c.take.ensures.later c.self.invariant.are_free)
          (c.take.ensures.together, c.if-is_free.ensures);
      are_left = all_later IsAt s.reader.seen now c.pop_front.new.self.items c.take.ensures.later
          (all_without (IsAt s.reader.seen.instance) s.left.items c.pop_front.new.self.items c.in-Some.seat
          c.in-Some.ensures.items c.self.invariant.are_left);
      count = omega (arith, c.self.invariant.count, c.in-Some.ensures.cases, c.push_reserved.ensures.len);
      frees = omega (arith, c.self.invariant.frees, c.push_reserved.ensures.capacity);
      leaves = omega (arith, c.self.invariant.leaves, c.in-Some.ensures.capacity);
    }

pub invariant_of-self-else-is_free : goal.invariant_of-self-else-is_free
invariant_of-self-else-is_free g c =
    let s = c.self.inside in
    let now = c.take.new.reader.seen in
    record {
      sends = c.self.invariant.sends ∙ sym c.take.ensures.later.instance;
      are_free = all_later IsFreeAt s.reader.seen now s.free.items c.take.ensures.later c.self.invariant.are_free;
      are_left = all_pushed (IsAt now.instance) c.pop_front.new.self.items c.push_back_reserved.new.self.items
          c.take.new.self c.push_back_reserved.ensures.items
          (all_later IsAt s.reader.seen now c.pop_front.new.self.items c.take.ensures.later
          (all_without (IsAt s.reader.seen.instance) s.left.items c.pop_front.new.self.items c.in-Some.seat
          c.in-Some.ensures.items c.self.invariant.are_left))
          c.take.ensures.together;
      count = omega (arith, c.self.invariant.count, c.in-Some.ensures.cases, c.push_back_reserved.ensures.len);
      frees = c.self.invariant.frees;
      leaves = omega (
        arith,
        c.self.invariant.leaves,
        c.in-Some.ensures.capacity,
        c.push_back_reserved.ensures.capacity,
      );
    }

pub returns-then-is_free-clause-seats : goal.returns-then-is_free-clause-seats
returns-then-is_free-clause-seats g c =
    let s = c.self.inside in
    let count : length c.push_reserved.new.self.items + length c.pop_front.new.self.items
    ≡ length s.free.items + length s.left.items =
    omega (arith, c.in-Some.ensures.cases, c.push_reserved.ensures.len) in
    one_freed _ _ _ c.take.new.self c.self.view_is refl count c.push_reserved.ensures.items
