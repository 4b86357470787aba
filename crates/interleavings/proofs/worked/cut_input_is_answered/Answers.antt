use Rattle.interleavings.proofs.examples.CutInput.{written_to_first, written_to_next}
use Rattle.interleavings.proofs.worked.cut_input_is_answered.Goals as goal

pub returns-clause-written : goal.returns-clause-written
returns-clause-written c = written_to_first

pub returns-clause-next : goal.returns-clause-next
returns-clause-next c = written_to_next
