use Rattle.interleavings.proofs.served.OneOrder.{is_run, one_order, each_is_served, none_unanswered, all_have_all}
use Rattle.interleavings.proofs.served.Kinds.{first_fits}
use Rattle.interleavings.proofs.laws.clients_see_one_table.Goals as goal

pub returns-clause-run : goal.returns-clause-run
returns-clause-run c count homes moves = is_run count homes moves

pub returns-clause-order : goal.returns-clause-order
returns-clause-order c count homes moves few = one_order count homes moves few

pub returns-clause-bytes : goal.returns-clause-bytes
returns-clause-bytes c count homes moves a n = each_is_served count homes moves a n

pub returns-clause-answered : goal.returns-clause-answered
returns-clause-answered c count homes moves few short quiet = none_unanswered count homes moves few short quiet

pub returns-clause-all : goal.returns-clause-all
returns-clause-all c count homes moves few short quiet = all_have_all count homes moves few short quiet

pub returns-clause-kinds : goal.returns-clause-kinds
returns-clause-kinds c count homes moves a reply more few queued wait =
    first_fits count homes moves few a reply more queued wait
