use Rattle.interleavings.proofs.examples.PipelinedSets.{read_is, in_flight, no_reply, written_is, are_row}
use Rattle.interleavings.proofs.examples.PipelinedSets.{are_published, first_before}
use Rattle.interleavings.proofs.worked.two_sets_are_in_flight.Goals as goal

pub returns-clause-read : goal.returns-clause-read
returns-clause-read c = read_is

pub returns-clause-in_flight : goal.returns-clause-in_flight
returns-clause-in_flight c = in_flight

pub returns-clause-no_reply : goal.returns-clause-no_reply
returns-clause-no_reply c = no_reply

pub returns-clause-row : goal.returns-clause-row
returns-clause-row c = are_row

pub returns-clause-published : goal.returns-clause-published
returns-clause-published c = are_published

pub returns-clause-written : goal.returns-clause-written
returns-clause-written c = written_is

pub returns-clause-order : goal.returns-clause-order
returns-clause-order c h one turn = first_before h one turn
