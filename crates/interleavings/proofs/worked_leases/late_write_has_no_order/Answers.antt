use Rattle.interleavings.proofs.examples.LateWrites.{late_write, late_write_replies, late_write_messages}
use Rattle.interleavings.proofs.worked_leases.late_write_has_no_order.Goals as goal

pub returns-clause-no_order : goal.returns-clause-no_order
returns-clause-no_order c h order = late_write h order

pub returns-clause-replies : goal.returns-clause-replies
returns-clause-replies c a other = late_write_replies a other

pub returns-clause-messages : goal.returns-clause-messages
returns-clause-messages c i j = late_write_messages i j
