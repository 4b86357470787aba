use Rattle.world.proofs.examples.WorkedAlone.{middle_server_left_alone}
use Rattle.world.proofs.examples.WorkedAloneOrder.{without_the_set, only_the_set}
use Rattle.world.proofs.worked.left_alone.Goals as goal

-- the server that is left alone answers its client's set, and nothing waits
pub returns-clause-transcript : goal.returns-clause-transcript
returns-clause-transcript c = middle_server_left_alone

-- the answered set can't be left out of an order
pub returns-clause-left_out : goal.returns-clause-left_out
returns-clause-left_out c order = without_the_set order

-- there is one right order, and no other
pub returns-clause-only : goal.returns-clause-only
returns-clause-only c h order = only_the_set h order
