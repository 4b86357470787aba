use Rattle.interleavings.proofs.restored.ServedFromTables.{is_run_from, one_order_from, each_is_served_from}
use Rattle.interleavings.proofs.restored.ServedFromTables.{none_unanswered_from, all_have_all_from, first_fits_there}
use Rattle.interleavings.proofs.starts.clients_see_one_table_from_a_start.Goals as goal

pub returns-clause-run : goal.returns-clause-run
returns-clause-run c count homes t moves = is_run_from count homes t moves

pub returns-clause-order : goal.returns-clause-order
returns-clause-order c count homes t moves some few r numbers = one_order_from count homes t moves some few r numbers

pub returns-clause-bytes : goal.returns-clause-bytes
returns-clause-bytes c count homes t moves a n = each_is_served_from count homes t moves a n

pub returns-clause-answered : goal.returns-clause-answered
returns-clause-answered c count homes t moves some few r short quiet =
    none_unanswered_from count homes t moves some few r short quiet

pub returns-clause-all : goal.returns-clause-all
returns-clause-all c count homes t moves some few r short quiet =
    all_have_all_from count homes t moves some few r short quiet

pub returns-clause-kinds : goal.returns-clause-kinds
returns-clause-kinds c count homes t moves a reply more some few r numbers queued wait =
    first_fits_there count homes t moves some few r numbers a reply more queued wait
