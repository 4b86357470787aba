use Rattle.commands.proofs.scenarios.replay.Goals as goal

pub returns-in_err-write_all-clause-begun : goal.returns-in_err-write_all-clause-begun
returns-in_err-write_all-clause-begun g c = λ failed. (
  (
    c.as_slice.result.now,
    c.as_slice-2.result.now,
    rw c.as_slice-2.ensures.value c.in_ok-transcript.ensures.shown,
    rw c.as_slice.ensures.value c.in_ok-schedule.ensures.bytes,
    c.in_err-write_all.ensures.begun,
  ),
  c.in_ok-schedule.ensures.ended,
)
