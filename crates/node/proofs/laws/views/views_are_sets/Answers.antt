use Rattle.node.proofs.ViewLaws.{nowhere, has-single_itself, has_single, has-union}
use Rattle.node.proofs.laws.views.views_are_sets.Goals as goal

-- the empty view names nobody
pub returns-clause-empty : goal.returns-clause-empty
returns-clause-empty c = nowhere

-- a single view names its server
pub returns-clause-single : goal.returns-clause-single
returns-clause-single c = has-single_itself

-- a single view names nobody but its server
pub returns-clause-single_alone : goal.returns-clause-single_alone
returns-clause-single_alone c = has_single

-- a union names whom one of the two views names
pub returns-clause-union : goal.returns-clause-union
returns-clause-union c = has-union
