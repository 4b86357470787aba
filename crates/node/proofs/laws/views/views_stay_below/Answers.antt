use Rattle.node.proofs.ViewLaws.{named-below, below-empty, below-single, below-union}
use Rattle.node.proofs.laws.views.views_stay_below.Goals as goal

-- whom a view below the count names is below the count
pub returns-clause-named : goal.returns-clause-named
returns-clause-named c = named-below

-- the empty view is below the count
pub returns-clause-empty : goal.returns-clause-empty
returns-clause-empty c = below-empty

-- the single view of a server below the count is below it
pub returns-clause-single : goal.returns-clause-single
returns-clause-single c = below-single

-- the union of two views below the count is below it
pub returns-clause-union : goal.returns-clause-union
returns-clause-union c = below-union
