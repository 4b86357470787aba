use Rattle.interleavings.proofs.examples.OvertakenSet.{are_row, out_of_turn}
use Rattle.interleavings.proofs.worked.overtaken_set_is_out_of_turn.Goals as goal

pub returns-clause-row : goal.returns-clause-row
returns-clause-row c = are_row

pub returns-clause-out_of_turn : goal.returns-clause-out_of_turn
returns-clause-out_of_turn c h one turn row = out_of_turn h one turn row
