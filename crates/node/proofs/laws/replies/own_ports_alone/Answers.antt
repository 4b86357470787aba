use Rattle.node.proofs.PortLaws.{open_below-step, replies_below-step, open_below-after, replies_below-after}
use Rattle.node.proofs.laws.replies.own_ports_alone.Goals as goal

-- with calls at ports below n alone, none is open at another port after a step
pub returns-clause-open_after_step : goal.returns-clause-open_after_step
returns-clause-open_after_step c = open_below-step

-- with calls at ports below n alone, a step puts out replies at such ports alone
pub returns-clause-replies_of_step : goal.returns-clause-replies_of_step
returns-clause-replies_of_step c = replies_below-step

-- with calls at ports below n alone, none is open at another port after a run
pub returns-clause-open_after_run : goal.returns-clause-open_after_run
returns-clause-open_after_run c = open_below-after

-- with calls at ports below n alone, a run puts out replies at such ports alone
pub returns-clause-replies_of_run : goal.returns-clause-replies_of_run
returns-clause-replies_of_run c = replies_below-after
