use Rattle.std.proofs.Common.{[], sym, subst}
use Rattle.serving.specs.Connections.{IsReached, IsReachedAhead}
use Rattle.serving.proofs.GoingAhead.{as_ahead}
use Rattle.serving.proofs.Reaching.{reached_first}
use Rattle.serving.proofs.Resting.{resting_none}
use Rattle.serving.proofs.connections.Connection.new.Goals as goal

pub invariant_of-result : goal.invariant_of-result
invariant_of-result c = (
  subst (IsReachedAhead c.new-2.result c.new-3.result.all c.new-4.result c.new.result) (sym c.new-5.ensures.items)
      (as_ahead c.new-2.result c.new-3.result.all c.new-4.result c.new.result
      (subst (λ read. IsReached read c.new-3.result.all c.new-4.result c.new.result) (sym c.new-2.ensures)
      (subst (λ outcomes. IsReached [] outcomes c.new-4.result c.new.result) (sym c.new-3.ensures)
      (subst (λ written. IsReached [] [] written c.new.result) (sym c.new-4.ensures)
      (reached_first c.new.result c.new.ensures))))),
  resting_none c.new-2.result c.new-3.result.all c.new-4.result c.new.result c.new-5.result.items,
)
