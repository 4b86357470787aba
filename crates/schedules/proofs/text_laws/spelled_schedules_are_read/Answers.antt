use Rattle.schedules.proofs.ScheduleLaws.{spelled_read, read_spelled}
use Rattle.schedules.proofs.text_laws.spelled_schedules_are_read.Goals as goal

-- what spells a schedule is read as it
pub returns-clause-read : goal.returns-clause-read
returns-clause-read c = spelled_read

-- what is read was spelled so
pub returns-clause-spelled : goal.returns-clause-spelled
returns-clause-spelled c = read_spelled
