use Rattle.std.proofs.Common.{ap, subst}
use Rattle.faces.specs.Readers.{HasLookedAtMostOnce}
use Rattle.seats.specs.SeatPools.{Pooling}
use Rattle.seats.proofs.seat_pools.SeatPool.peek.Goals as goal

pub returns-then-is_set-clause-once : goal.returns-then-is_set-clause-once
returns-then-is_set-clause-once c =
    subst (λ looks. HasLookedAtMostOnce looks c.peek-found.new.reader.looks)
    (ap (λ (p : Pooling). p.looks) c.self.view_is) c.peek-found.ensures.once

pub returns-clause-once : goal.returns-clause-once
returns-clause-once c =
    subst (λ looks. HasLookedAtMostOnce looks c.peek-found.new.reader.looks)
    (ap (λ (p : Pooling). p.looks) c.self.view_is) c.peek-found.ensures.once
