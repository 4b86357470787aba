use Rattle.world.proofs.positions.PositionsRun.{begun_is, answered_is}
use Rattle.world.proofs.laws.calls_follow_the_stream.Goals as goal

-- the calls that a connection has begun are the first among the turns of its stream
pub returns-clause-begun : goal.returns-clause-begun
returns-clause-begun c =
    begun_is (record {
      first = c.next_gives_first.ensures;
      keeps = c.next_keeps_end.ensures;
      answers = c.answer_keeps_turns.ensures;
    }) c.faults_take_bytes.ensures

-- as many of them are answered as there are calls up to its ordinal
pub returns-clause-answered : goal.returns-clause-answered
returns-clause-answered c =
    answered_is (record {
      first = c.next_gives_first.ensures;
      keeps = c.next_keeps_end.ensures;
      answers = c.answer_keeps_turns.ensures;
    }) c.faults_take_bytes.ensures
