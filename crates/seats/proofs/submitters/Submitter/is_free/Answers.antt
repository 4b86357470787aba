use Rattle.seats.proofs.Submitted.{read_waits, update_waits}
use Rattle.seats.proofs.submitters.Submitter.is_free.Goals as goal

pub returns-in-Read : goal.returns-in-Read
returns-in-Read c =
    read_waits c.self.inside.stage c.self.inside.seat _ c.in-Read.is c.self.invariant c.self.view_is

pub returns-in-Update : goal.returns-in-Update
returns-in-Update c =
    update_waits c.self.inside.stage c.self.inside.seat _ c.in-Update.is c.self.invariant c.self.view_is
