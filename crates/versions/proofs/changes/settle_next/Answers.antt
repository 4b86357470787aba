use Rattle.versions.proofs.Bases.{base-changed}
use Rattle.versions.proofs.Holding.{next_base}
use Rattle.versions.proofs.changes.settle_next.Goals as goal

-- the base after the first entry moved there is that with its change
pub returns-clause-base : goal.returns-clause-base
returns-clause-base c =
    next_base _ _ _ _ c.in-Some.entry c.in-Some.ensures.items
    (rw (← c.into_change-target.ensures.target, ← c.into_change-target.ensures.change)
    (base-changed _ _ _ _ c.settle.ensures.items))
