use Rattle.std.proofs.Common.{◌∙◌, ap, sym}
use Rattle.io_threads.specs.Clients.{ClientState}
use Rattle.io_threads.proofs.Pausing.{past_end}
use Rattle.io_threads.proofs.Sending.{same_in_flight}
use Rattle.io_threads.proofs.clients.Client.step.Goals as goal

pub returns-in-Ok-Over-clause-paused : goal.returns-in-Ok-Over-clause-paused
returns-in-Ok-Over-clause-paused g c =
    let found = rw c.in-Ok-Over.field-0-is at c.in-Ok-Over.ensures in
    let further = c.advance.ensures.further in
    let whole = ap (λ (v : ClientState). v.refused) c.self.view_is ∙ c.requires.whole in
    past_end _ _ _ _ found.went.0 (c.self.invariant.read whole ∙ sym further.read)
    (c.self.invariant.written ∙ sym further.written) found.went.1.1

pub returns-in-Ok-Reply-clause-unsent : goal.returns-in-Ok-Reply-clause-unsent
returns-in-Ok-Reply-clause-unsent g c same =
    let found = rw c.in-Ok-Reply.field-0-is at c.in-Ok-Reply.ensures in
    same_in_flight _ _ _ _ c.in_flight-in_flight.result c.in_flight.result found.went.0 c.advance.ensures.sent found.went.1
    c.in_flight-in_flight.ensures c.in_flight.ensures (c.is_another.ensures same)
