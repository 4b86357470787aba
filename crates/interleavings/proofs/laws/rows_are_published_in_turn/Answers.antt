use Rattle.interleavings.proofs.rows.OneSender.{one_sender_in_turn, one_sender_order}
use Rattle.interleavings.proofs.laws.rows_are_published_in_turn.Goals as goal

pub returns-clause-published : goal.returns-clause-published
returns-clause-published c senders count homes moves row few r one order =
    one_sender_in_turn senders count homes moves row few r one order

pub returns-clause-order : goal.returns-clause-order
returns-clause-order c senders count homes moves row few r one order =
    one_sender_order senders count homes moves row few r one order
