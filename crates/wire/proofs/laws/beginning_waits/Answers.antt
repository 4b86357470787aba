use Rattle.wire.proofs.FrontLaws.{beginning_waits}
use Rattle.wire.proofs.laws.beginning_waits.Goals as goal

-- at each beginning of a frame's spelling more bytes are waited for, until all of it is there
pub returns : goal.returns
returns c = beginning_waits
