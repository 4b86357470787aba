use Rattle.interleavings.proofs.examples.SentSets.{of_one, in_order, not_in_order}
use Rattle.interleavings.proofs.worked.one_sender_keeps_the_order.Goals as goal

pub returns-clause-one : goal.returns-clause-one
returns-clause-one c = of_one

pub returns-clause-in_order : goal.returns-clause-in_order
returns-clause-in_order c = in_order

pub returns-clause-overtaken : goal.returns-clause-overtaken
returns-clause-overtaken c t = not_in_order t
