use Rattle.world.proofs.examples.WorkedResent.{resent_call_acts}
use Rattle.world.proofs.examples.WorkedResentOrder.{twice_legal, twice_is_no_order}
use Rattle.world.proofs.examples.WorkedResentOnly.{the_order}
use Rattle.world.proofs.worked.resent_call.Goals as goal

-- the incr that is sent again acts once: the get shows 8
pub returns-clause-transcript : goal.returns-clause-transcript
returns-clause-transcript c = resent_call_acts

-- a single table may take the incr twice
pub returns-clause-legal : goal.returns-clause-legal
returns-clause-legal c = twice_legal

-- no order of the schedule has the incr twice
pub returns-clause-twice : goal.returns-clause-twice
returns-clause-twice c order = twice_is_no_order order

-- there is one right order, and no other
pub returns-clause-only : goal.returns-clause-only
returns-clause-only c h order = the_order h order
