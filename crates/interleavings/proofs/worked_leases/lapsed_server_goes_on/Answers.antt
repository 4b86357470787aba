use Rattle.interleavings.proofs.examples.LapsedServer.{lapsed_leased, lapsed_asked, lapsed_stored, lapsed_published}
use Rattle.interleavings.proofs.examples.LapsedServer.{lapsed_put, lapsed_looked, lapsed_unwritten, lapsed_order}
use Rattle.interleavings.proofs.worked_leases.lapsed_server_goes_on.Goals as goal

pub returns-clause-leased : goal.returns-clause-leased
returns-clause-leased c = lapsed_leased

pub returns-clause-asked : goal.returns-clause-asked
returns-clause-asked c = lapsed_asked

pub returns-clause-stored : goal.returns-clause-stored
returns-clause-stored c = lapsed_stored

pub returns-clause-published : goal.returns-clause-published
returns-clause-published c = lapsed_published

pub returns-clause-put : goal.returns-clause-put
returns-clause-put c = lapsed_put

pub returns-clause-looked : goal.returns-clause-looked
returns-clause-looked c = lapsed_looked

pub returns-clause-unwritten : goal.returns-clause-unwritten
returns-clause-unwritten c = lapsed_unwritten

pub returns-clause-order : goal.returns-clause-order
returns-clause-order c = lapsed_order
