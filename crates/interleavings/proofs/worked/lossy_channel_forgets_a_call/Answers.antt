use Rattle.interleavings.proofs.examples.WithoutRules.{lossy_begun, lossy_forgotten, lossy_first, lossy_second}
use Rattle.interleavings.proofs.examples.WithoutRules.{lossy_down, lossy_back, lossy_mail, lossy_head, lossy_tail}
use Rattle.interleavings.proofs.examples.QuietLoss.{lossy_quiet}
use Rattle.interleavings.proofs.worked.lossy_channel_forgets_a_call.Goals as goal

pub returns-clause-begun : goal.returns-clause-begun
returns-clause-begun c = lossy_begun

pub returns-clause-forgotten : goal.returns-clause-forgotten
returns-clause-forgotten c = lossy_forgotten

pub returns-clause-first : goal.returns-clause-first
returns-clause-first c = lossy_first

pub returns-clause-second : goal.returns-clause-second
returns-clause-second c = lossy_second

pub returns-clause-down : goal.returns-clause-down
returns-clause-down c = lossy_down

pub returns-clause-back : goal.returns-clause-back
returns-clause-back c = lossy_back

pub returns-clause-queued : goal.returns-clause-queued
returns-clause-queued c = lossy_mail

pub returns-clause-head_goes_on : goal.returns-clause-head_goes_on
returns-clause-head_goes_on c = lossy_head

pub returns-clause-tail_goes_on : goal.returns-clause-tail_goes_on
returns-clause-tail_goes_on c = lossy_tail

pub returns-clause-quiet : goal.returns-clause-quiet
returns-clause-quiet c = lossy_quiet
