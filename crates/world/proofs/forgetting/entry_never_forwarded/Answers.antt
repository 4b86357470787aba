use Rattle.world.proofs.examples.WorkedForgetting.{unforwarded_shown, unforwarded_forgets, forwarded_waits}
use Rattle.world.proofs.forgetting.entry_never_forwarded.Goals as goal

-- if the head never forwards an entry, nothing waits, and the set has no reply
pub returns-clause-transcript : goal.returns-clause-transcript
returns-clause-transcript c = unforwarded_shown

-- a head that never forwards an entry forgets the set
pub returns-clause-forgets : goal.returns-clause-forgets
returns-clause-forgets c = unforwarded_forgets

-- with the step of `node` the entry is still on its way
pub returns-clause-ordinary : goal.returns-clause-ordinary
returns-clause-ordinary c = forwarded_waits
