use Rattle.interleavings.proofs.examples.Answered.{set_moves_asked}
use Rattle.interleavings.proofs.examples.Starts.{counted_reached, set_stored, first_holds, second_holds}
use Rattle.interleavings.proofs.worked_starts.set_after_a_start.Goals as goal

pub returns-clause-reached : goal.returns-clause-reached
returns-clause-reached c = counted_reached

pub returns-clause-answered : goal.returns-clause-answered
returns-clause-answered c = set_stored

pub returns-clause-first : goal.returns-clause-first
returns-clause-first c = first_holds

pub returns-clause-second : goal.returns-clause-second
returns-clause-second c = second_holds

pub returns-clause-asked : goal.returns-clause-asked
returns-clause-asked c = set_moves_asked
