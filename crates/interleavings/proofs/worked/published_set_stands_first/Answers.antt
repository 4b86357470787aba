use Rattle.interleavings.proofs.examples.SetsInFlight.{flight_asked, flight_linearization, flight_not_in_turn}
use Rattle.interleavings.proofs.worked.published_set_stands_first.Goals as goal

pub returns-clause-linearization : goal.returns-clause-linearization
returns-clause-linearization c = flight_linearization

pub returns-clause-not_in_turn : goal.returns-clause-not_in_turn
returns-clause-not_in_turn c h = flight_not_in_turn h

pub returns-clause-asked : goal.returns-clause-asked
returns-clause-asked c = flight_asked
