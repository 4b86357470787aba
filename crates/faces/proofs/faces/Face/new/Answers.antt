use Rattle.faces.proofs.Waiting.{queued_none}
use Rattle.faces.proofs.faces.Face.new.Goals as goal

pub invariant_of-result : goal.invariant_of-result
invariant_of-result c = rw (c.new.ensures, c.new-2.ensures.items) queued_none
