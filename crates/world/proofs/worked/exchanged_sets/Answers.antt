use Rattle.world.proofs.examples.WorkedInTime.{sets_are_shown}
use Rattle.world.proofs.examples.WorkedInTimeOrder.{exchanged_legal, exchanged_begun, exchanged_once}
use Rattle.world.proofs.examples.WorkedInTimeOrder.{exchanged_answered, exchanged_in_turn, exchanged_is_no_order}
use Rattle.world.proofs.worked.exchanged_sets.Goals as goal

-- both sets are answered, and nothing waits
pub returns-clause-transcript : goal.returns-clause-transcript
returns-clause-transcript c = sets_are_shown

-- a single table may answer so in the exchanged order
pub returns-clause-legal : goal.returns-clause-legal
returns-clause-legal c = exchanged_legal

-- each of its calls was begun
pub returns-clause-begun : goal.returns-clause-begun
returns-clause-begun c i e here = exchanged_begun i e here

-- no call stands in it twice
pub returns-clause-once : goal.returns-clause-once
returns-clause-once c i j x one two = exchanged_once i j x one two

-- each answered call stands in it, with its reply
pub returns-clause-answered : goal.returns-clause-answered
returns-clause-answered c x reply got = exchanged_answered x reply got

-- the exchanged order keeps the turns of each server
pub returns-clause-in_turn : goal.returns-clause-in_turn
returns-clause-in_turn c x y j before there = exchanged_in_turn x y j before there

-- the exchanged order is refused by time
pub returns-clause-refused : goal.returns-clause-refused
returns-clause-refused c order = exchanged_is_no_order order
