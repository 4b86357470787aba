use Rattle.interleavings.proofs.examples.Starts.{unseen_begun, unseen_forgotten, unseen_goes_on, unseen_quiet}
use Rattle.interleavings.proofs.worked_starts.unseen_ids_forget_a_call.Goals as goal

pub returns-clause-begun : goal.returns-clause-begun
returns-clause-begun c = unseen_begun

pub returns-clause-forgotten : goal.returns-clause-forgotten
returns-clause-forgotten c = unseen_forgotten

pub returns-clause-quiet : goal.returns-clause-quiet
returns-clause-quiet c = unseen_quiet

pub returns-clause-going : goal.returns-clause-going
returns-clause-going c = unseen_goes_on
