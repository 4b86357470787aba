use Rattle.world.proofs.positions.Progress.{is_at}
use Rattle.world.proofs.laws.no_turn_is_left_out.Goals as goal

-- the turns of a stream are those that its connection has passed, the open one, and those still to come
pub returns : goal.returns
returns c =
    is_at (record {
      first = c.next_gives_first.ensures;
      keeps = c.next_keeps_end.ensures;
      answers = c.answer_keeps_turns.ensures;
    }) c.faults_take_bytes.ensures
