use Rattle.std.proofs.Common.{length}
use Rattle.snapshots.proofs.texts.+agrees.Given as goal

-- the text gets shorter
abbrev pub decreases-agrees : goal.decreases-agrees
decreases-agrees l = length l.text.now
