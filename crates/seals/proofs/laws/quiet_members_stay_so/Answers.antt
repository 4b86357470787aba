use Rattle.seals.proofs.Quiet.{stays}
use Rattle.seals.proofs.laws.quiet_members_stay_so.Goals as goal

pub returns : goal.returns
returns c members threads numbers w next quiet step held = stays members threads numbers w next quiet step held
