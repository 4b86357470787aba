use Rattle.std.proofs.Common.{ℕ, List, sym, subst}
use Rattle.commands.specs.Tellings.{Tells}
use Rattle.commands.proofs.tellings.tell.Goals as goal

pub returns-in_err-write_all-clause-begun : goal.returns-in_err-write_all-clause-begun
returns-in_err-write_all-clause-begun g c = λ failed. (
  c.as_slice.result.now,
  c.as_slice-2.result.now,
  subst (λ (shown : List ℕ). Tells c.args.telling c.as_slice.result.now shown) (sym c.as_slice-2.ensures.value)
      c.in_ok-text.ensures.told,
  rw c.as_slice.ensures.value c.in_ok-schedule.ensures.bytes,
  c.in_err-write_all.ensures.begun,
)
