use Rattle.node.proofs.ViewLaws.{next_is, next_within_many, no_next, predecessor_is, no_predecessor}
use Rattle.node.proofs.laws.views.neighbors_are_nearest.Goals as goal

-- what `next_from` finds is the nearest server outside the view from there on
pub returns-clause-next : goal.returns-clause-next
returns-clause-next c = next_is

-- what `next_from` finds is among the servers that it looks at
pub returns-clause-next_within : goal.returns-clause-next_within
returns-clause-next_within c = next_within_many

-- if none is found, the view names all that were looked at
pub returns-clause-no_next : goal.returns-clause-no_next
returns-clause-no_next c = no_next

-- the predecessor that is found is the nearest server below outside the view
pub returns-clause-predecessor : goal.returns-clause-predecessor
returns-clause-predecessor c = predecessor_is

-- if no predecessor is found, the view names all servers below
pub returns-clause-no_predecessor : goal.returns-clause-no_predecessor
returns-clause-no_predecessor c = no_predecessor
