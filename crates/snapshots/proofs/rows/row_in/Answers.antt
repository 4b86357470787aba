use Rattle.std.proofs.Common.{sym, ◌∙◌}
use Rattle.snapshots.proofs.RowLaws.{entry_given, if_none}
use Rattle.snapshots.proofs.rows.row_in.Goals as goal

-- a message whose entry isn't a row's isn't either
pub returns-clause-none : goal.returns-clause-none
returns-clause-none c =
    if_none c.row_of.result _ _
    (λ none row e. none row (entry_given c.in-Peer.peer c.in-Forward.entry row c.in-Forward.is (sym c.in-Peer.is ∙ e)))
    c.row_of.ensures.none
