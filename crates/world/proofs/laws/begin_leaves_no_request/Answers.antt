use Rattle.world.proofs.positions.Progress.{begin_passes_all, begin_closes}
use Rattle.world.proofs.laws.begin_leaves_no_request.Goals as goal

-- a begin at a living home after which no call is open has passed all turns of the stream
pub returns-clause-passed : goal.returns-clause-passed
returns-clause-passed c count homes events d k here alive none =
    begin_passes_all (record {
      first = c.next_gives_first.ensures;
      keeps = c.next_keeps_end.ensures;
      answers = c.answer_keeps_turns.ensures;
    })
    c.faults_take_bytes.ensures count homes events d k (here, alive, none)

-- the session is closed then exactly if the stream has come to its last request
pub returns-clause-closed : goal.returns-clause-closed
returns-clause-closed c count homes events d k here alive none =
    begin_closes (record {
      first = c.next_gives_first.ensures;
      keeps = c.next_keeps_end.ensures;
      answers = c.answer_keeps_turns.ensures;
    })
    c.faults_take_bytes.ensures count homes events d k (here, alive, none)
