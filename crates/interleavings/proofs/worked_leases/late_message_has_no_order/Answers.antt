use Rattle.interleavings.proofs.examples.LateMessages.{late_message, late_message_replies, late_message_others}
use Rattle.interleavings.proofs.worked_leases.late_message_has_no_order.Goals as goal

pub returns-clause-no_order : goal.returns-clause-no_order
returns-clause-no_order c h order = late_message h order

pub returns-clause-replies : goal.returns-clause-replies
returns-clause-replies c a = late_message_replies a

pub returns-clause-messages : goal.returns-clause-messages
returns-clause-messages c i j other = late_message_others i j other
