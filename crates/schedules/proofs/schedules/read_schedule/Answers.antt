use Rattle.std.proofs.Common.{rules}
use Rattle.schedules.proofs.HeadLaws.{can_run}
use Rattle.schedules.proofs.ScheduleLaws.{read_spelled}
use Rattle.schedules.proofs.schedules.read_schedule.Goals as goal

-- what is read was spelled so
pub returns-clause-spelled : goal.returns-clause-spelled
returns-clause-spelled c = read_spelled c.args.text.now _ (search rules)

-- a schedule that is read has its servers and homes in range
pub returns-clause-runs : goal.returns-clause-runs
returns-clause-runs c = can_run c.args.text.now _ (returns-clause-spelled c)
