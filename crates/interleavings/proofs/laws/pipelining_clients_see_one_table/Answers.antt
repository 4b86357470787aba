use Rattle.interleavings.proofs.rows.WholeBytes.{turns_joined}
use Rattle.interleavings.proofs.rows.RowOrder.{row_is_served, row_in_turn}
use Rattle.interleavings.proofs.laws.pipelining_clients_see_one_table.Goals as goal

pub returns-clause-bytes : goal.returns-clause-bytes
returns-clause-bytes c does count homes moves row r = row_is_served does count homes moves row r

pub returns-clause-order : goal.returns-clause-order
returns-clause-order c does port count homes moves row h r published one turn =
    row_in_turn does count homes moves row r port published h one turn

pub returns-clause-turns : goal.returns-clause-turns
returns-clause-turns c bytes more whole = turns_joined bytes more whole
