use Rattle.std.proofs.lemmas.Result.{on_err_weaker}
use Rattle.ends.proofs.Written.{at-an-error, begun-first, begun-then}
use Rattle.lines.specs.Written.{note_of}
use Rattle.lines.proofs.written_lines.write_line.Goals as goal

pub returns-in_err-write_note-clause-begun : goal.returns-in_err-write_note-clause-begun
returns-in_err-write_note-clause-begun g c =
    at-an-error c.from_residual.result
    (begun-first _ _ (note_of c.args.waiting.now.dropped) c.args.waiting.now.line.items
    c.in_err-write_note.ensures.begun)

pub returns-clause-begun : goal.returns-clause-begun
returns-clause-begun g c =
    rw (← c.as_slice.ensures.value) (on_err_weaker c.write_all.result
    (λ begun. begun-then _ _ _ (note_of c.args.waiting.now.dropped) c.as_slice.result.now
    c.in_ok-write_note.ensures.written begun)
    c.write_all.ensures.begun)
