use Rattle.world.proofs.examples.WorkedInTimeOrder.{exchanged_legal, exchanged_once}
use Rattle.world.proofs.examples.WorkedInFlight.{flight_is_shown}
use Rattle.world.proofs.examples.WorkedInTurn.{flight_begun, flight_answered, flight_in_time}
use Rattle.world.proofs.examples.WorkedInTurn.{flight_exchanged_is_no_order}
use Rattle.world.proofs.worked.sets_in_flight.Goals as goal

-- both sets are answered, and nothing waits
pub returns-clause-transcript : goal.returns-clause-transcript
returns-clause-transcript c = flight_is_shown

-- a single table may answer so in the exchanged order
pub returns-clause-legal : goal.returns-clause-legal
returns-clause-legal c = exchanged_legal

-- each of its calls was begun
pub returns-clause-begun : goal.returns-clause-begun
returns-clause-begun c i e here = flight_begun i e here

-- no call stands in it twice
pub returns-clause-once : goal.returns-clause-once
returns-clause-once c i j x one two = exchanged_once i j x one two

-- each answered call stands in it, with its reply
pub returns-clause-answered : goal.returns-clause-answered
returns-clause-answered c x reply got = flight_answered x reply got

-- the exchanged order keeps real-time order, as neither call precedes the other
pub returns-clause-in_time : goal.returns-clause-in_time
returns-clause-in_time c x y j before there = flight_in_time x y j before there

-- the exchanged order is refused by the server's turns
pub returns-clause-refused : goal.returns-clause-refused
returns-clause-refused c order = flight_exchanged_is_no_order order
