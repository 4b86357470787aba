use Rattle.world.proofs.positions.PositionsRun.{sent_is}
use Rattle.world.proofs.laws.sent_bytes_follow_the_stream.Goals as goal

-- a connection was sent the texts of its stream's turns up to its ordinal, however the stream was cut
pub returns : goal.returns
returns c =
    sent_is (record {
      first = c.next_gives_first.ensures;
      keeps = c.next_keeps_end.ensures;
      answers = c.answer_keeps_turns.ensures;
    }) c.faults_take_bytes.ensures
