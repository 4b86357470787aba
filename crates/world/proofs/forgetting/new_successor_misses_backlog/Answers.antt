use Rattle.world.proofs.examples.WorkedForgetting.{missed_shown, missed_forgets, sent_waits}
use Rattle.world.proofs.forgetting.new_successor_misses_backlog.Goals as goal

-- if a new successor isn't sent what it misses, nothing waits, and the set has no reply
pub returns-clause-transcript : goal.returns-clause-transcript
returns-clause-transcript c = missed_shown

-- a head that doesn't send its new successor what it misses forgets the set
pub returns-clause-forgets : goal.returns-clause-forgets
returns-clause-forgets c = missed_forgets

-- with the step of `node` the entry is still on its way to the new successor
pub returns-clause-ordinary : goal.returns-clause-ordinary
returns-clause-ordinary c = sent_waits
