use Rattle.interleavings.proofs.examples.HandedOver.{handed_over, first_stored, second_stored}
use Rattle.interleavings.proofs.worked_starts.table_is_handed_over.Goals as goal

pub returns-clause-successive : goal.returns-clause-successive
returns-clause-successive c = handed_over

pub returns-clause-first : goal.returns-clause-first
returns-clause-first c = first_stored

pub returns-clause-second : goal.returns-clause-second
returns-clause-second c = second_stored
