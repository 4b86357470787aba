use Rattle.std.proofs.Common.{refl}
use Rattle.faces.proofs.tombstones.is_to_go.Goals as goal

pub returns-in-None : goal.returns-in-None
returns-in-None c = rw (← c.in-None.ensures) refl
