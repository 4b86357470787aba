use Rattle.interleavings.proofs.examples.InTwoParts.{order_of_moves, order_by_moves}
use Rattle.interleavings.proofs.worked.ordinary_moves.Goals as goal

pub returns-clause-order : goal.returns-clause-order
returns-clause-order c count homes moves h o = order_of_moves count homes moves h o

pub returns-clause-converse : goal.returns-clause-converse
returns-clause-converse c count homes moves h o = order_by_moves count homes moves h o
