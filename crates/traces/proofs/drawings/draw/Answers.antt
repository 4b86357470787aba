use Rattle.std.proofs.lemmas.Result.{IfOk-weaker}
use Rattle.traces.proofs.drawings.draw.Goals as goal

pub returns : goal.returns
returns c =
    IfOk-weaker c.drawing.result _ _
    (λ text has. (
      c.as_slice.result.now,
      rw (c.as_slice.ensures.value, ← c.in_ok-arrows.ensures) c.in_ok-arrows-2.ensures,
      has,
    ))
    c.drawing.ensures
