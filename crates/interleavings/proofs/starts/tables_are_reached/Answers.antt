use Rattle.interleavings.proofs.restored.Tables.{is_reached}
use Rattle.interleavings.proofs.restored.ReachedTables.{reached_well}
use Rattle.interleavings.proofs.starts.tables_are_reached.Goals as goal

pub returns-clause-reached : goal.returns-clause-reached
returns-clause-reached c t own fit = is_reached t own fit

pub returns-clause-only : goal.returns-clause-only
returns-clause-only c t r = (let w = reached_well t r in (w.own, w.fit))
