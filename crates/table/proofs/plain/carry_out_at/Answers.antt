use Rattle.table.proofs.Maps.{one_put, one_removed}
use Rattle.table.proofs.plain.carry_out_at.Goals as goal

pub returns-in_ok-insert-in-Put-clause-ok : goal.returns-in_ok-insert-in-Put-clause-ok
returns-in_ok-insert-in-Put-clause-ok c =
    rw (c.in-Put.is, ← c.in_ok-clone-in-Put.ensures.cases)
    (one_put c.args.items.now.entries _ _ _ c.in_ok-insert-in-Put.ensures.updates.0)

pub returns-in-Drop-clause-ok : goal.returns-in-Drop-clause-ok
returns-in-Drop-clause-ok c = rw c.in-Drop.is (one_removed c.args.items.now.entries _ _ c.remove.ensures.updates.0)
