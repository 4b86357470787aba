use Rattle.node.proofs.SoundLaws.{sound-appended, sound-risen, sound-entered, sound-asked, sound-widened, sound-trimmed}
use Rattle.node.proofs.SoundLaws.{entry_of-valid, sound-taken}
use Rattle.node.proofs.laws.rules.rules_keep_servers_sound.Goals as goal

-- what the head makes of an update that it takes is an entry
pub returns-clause-entry : goal.returns-clause-entry
returns-clause-entry c = entry_of-valid

-- a taken update keeps a server sound
pub returns-clause-taken : goal.returns-clause-taken
returns-clause-taken c = sound-taken

-- an entry with the next number keeps a server sound
pub returns-clause-appended : goal.returns-clause-appended
returns-clause-appended c = sound-appended

-- a rise up to the last number keeps a server sound
pub returns-clause-risen : goal.returns-clause-risen
returns-clause-risen c = sound-risen

-- an own update call that enters keeps a server sound
pub returns-clause-entered : goal.returns-clause-entered
returns-clause-entered c = sound-entered

-- a read that waits keeps a server sound
pub returns-clause-asked : goal.returns-clause-asked
returns-clause-asked c = sound-asked

-- a view that grows by other servers of the chain keeps a server sound
pub returns-clause-widened : goal.returns-clause-widened
returns-clause-widened c = sound-widened

-- the floor that follows keeps a server sound
pub returns-clause-trimmed : goal.returns-clause-trimmed
returns-clause-trimmed c = sound-trimmed
