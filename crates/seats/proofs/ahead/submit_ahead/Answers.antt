use Rattle.std.proofs.Common.{◌∙◌, ap, refl}
use Rattle.seats.specs.Submitters.{Submitting}
use Rattle.seats.proofs.ahead.submit_ahead.Goals as goal

pub returns-in-Ok-clause-opened : goal.returns-in-Ok-clause-opened
returns-in-Ok-clause-opened g c =
    record {
      sent = record { sender = c.args.pool.now.sender; call = c.args.call };
      is = refl;
      opened = ap (λ (x : Submitting). x.waiting) c.in-Ok.ensures.waits;
      here = ap (λ (x : Submitting). x.seat.instance) c.in-Ok.ensures.waits ∙ c.requires.free.0;
    }
