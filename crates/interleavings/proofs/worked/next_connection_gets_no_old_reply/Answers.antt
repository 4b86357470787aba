use Rattle.interleavings.proofs.examples.OldReplies.{reply_kept, delete_due, no_calls, none_written}
use Rattle.interleavings.proofs.worked.next_connection_gets_no_old_reply.Goals as goal

pub returns-clause-kept : goal.returns-clause-kept
returns-clause-kept c = reply_kept

pub returns-clause-due : goal.returns-clause-due
returns-clause-due c = delete_due

pub returns-clause-calls : goal.returns-clause-calls
returns-clause-calls c = no_calls

pub returns-clause-written : goal.returns-clause-written
returns-clause-written c = none_written
