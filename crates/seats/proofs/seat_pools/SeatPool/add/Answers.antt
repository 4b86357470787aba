use Rattle.std.proofs.Common.{◌∷◌, ◌++◌, ◌∙◌, [], List, ap, arith, length}
use Rattle.std.proofs.lemmas.List.Elements.{All-push, All-same}
use Rattle.seats.specs.SeatPools.{IsAt, IsFreeAt, Pooling}
use Rattle.seats.specs.Submitters.{Submitting}
use Rattle.seats.proofs.Pooled.{added}
use Rattle.seats.proofs.seat_pools.SeatPool.add.Goals as goal

pub invariant_of-self : goal.invariant_of-self
invariant_of-self c =
    let s = c.self.inside in
    let pushed = c.push_reserved.ensures.items
    ∙ ap (λ (xs : List Submitting). xs ++ c.new.result ∷ []) c.make_room.ensures.free in
    record {
      sends = c.self.invariant.sends;
      are_free = All-same (IsFreeAt s.reader.seen.instance) c.push_reserved.new.self.items
          (s.free.items ++ c.new.result ∷ []) pushed
          (All-push (IsFreeAt s.reader.seen.instance) s.free.items c.new.result c.self.invariant.are_free
          (added s.reader.seen c.args.self.now.seen c.args.seat c.new.result c.new.ensures c.requires.server
          (ap (λ (p : Pooling). p.seen) c.self.view_is)));
      are_left = All-same (IsAt s.reader.seen.instance) c.make_room.new.left.items s.left.items c.make_room.ensures.left
          c.self.invariant.are_left;
      count = omega (
        arith,
        c.self.invariant.count,
        c.in-Some.ensures,
        ap (λ (xs : List Submitting). length xs) c.make_room.ensures.free,
        ap (λ (xs : List Submitting). length xs) c.make_room.ensures.left,
        c.push_reserved.ensures.len,
      );
      frees = omega (arith, c.in-Ok.ensures.all, c.push_reserved.ensures.capacity);
      leaves = c.in-Ok.ensures.all.1;
    }
