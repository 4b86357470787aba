use Rattle.node.proofs.StepCloses.{answers-step}
use Rattle.node.proofs.RunLaws.{closed-after}
use Rattle.node.proofs.PortLaws.{idle-none_open, opening-none_open}
use Rattle.node.proofs.laws.replies.replies_close_calls.Goals as goal

-- after a step the open calls and its replies are the calls open before it and the one that it opened
pub returns-clause-step : goal.returns-clause-step
returns-clause-step c s input port reads h fit valid = (answers-step s input fit valid h).calls port reads

-- along a run no more calls are open or replied to than were open or came
pub returns-clause-run : goal.returns-clause-run
returns-clause-run c s inputs port reads h valid = closed-after s inputs port reads valid h

-- before any input no call is open
pub returns-clause-opening : goal.returns-clause-opening
returns-clause-opening c = opening-none_open

-- at an idle node no call is open
pub returns-clause-idle : goal.returns-clause-idle
returns-clause-idle c = idle-none_open
