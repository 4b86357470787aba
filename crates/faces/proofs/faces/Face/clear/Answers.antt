use Rattle.faces.proofs.Waiting.{queued_none}
use Rattle.faces.proofs.faces.Face.clear.Goals as goal

pub invariant_of-self : goal.invariant_of-self
invariant_of-self c = rw (c.clear.ensures, c.clear-2.ensures.items) queued_none
