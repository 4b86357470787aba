use Rattle.interleavings.proofs.examples.Starts.{anew_begun, anew_forgotten, anew_goes_on, anew_quiet}
use Rattle.interleavings.proofs.worked_starts.ids_anew_forget_a_call.Goals as goal

pub returns-clause-begun : goal.returns-clause-begun
returns-clause-begun c = anew_begun

pub returns-clause-forgotten : goal.returns-clause-forgotten
returns-clause-forgotten c = anew_forgotten

pub returns-clause-quiet : goal.returns-clause-quiet
returns-clause-quiet c = anew_quiet

pub returns-clause-going : goal.returns-clause-going
returns-clause-going c = anew_goes_on
