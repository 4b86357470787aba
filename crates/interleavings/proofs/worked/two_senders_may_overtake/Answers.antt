use Rattle.interleavings.proofs.examples.SentSets.{of_two, each_in_order, not_published_in_turn}
use Rattle.interleavings.proofs.worked.two_senders_may_overtake.Goals as goal

pub returns-clause-two : goal.returns-clause-two
returns-clause-two c one = of_two one

pub returns-clause-in_order : goal.returns-clause-in_order
returns-clause-in_order c = each_in_order

pub returns-clause-out_of_turn : goal.returns-clause-out_of_turn
returns-clause-out_of_turn c p = not_published_in_turn p
