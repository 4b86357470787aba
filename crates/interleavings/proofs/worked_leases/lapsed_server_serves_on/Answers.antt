use Rattle.interleavings.proofs.examples.LapsedServing.{serving_leased, head_written, tail_made_up, tail_unwritten}
use Rattle.interleavings.proofs.examples.LapsedServing.{serving_order}
use Rattle.interleavings.proofs.worked_leases.lapsed_server_serves_on.Goals as goal

pub returns-clause-leased : goal.returns-clause-leased
returns-clause-leased c = serving_leased

pub returns-clause-stored : goal.returns-clause-stored
returns-clause-stored c = head_written

pub returns-clause-made_up : goal.returns-clause-made_up
returns-clause-made_up c = tail_made_up

pub returns-clause-unwritten : goal.returns-clause-unwritten
returns-clause-unwritten c = tail_unwritten

pub returns-clause-order : goal.returns-clause-order
returns-clause-order c = serving_order
