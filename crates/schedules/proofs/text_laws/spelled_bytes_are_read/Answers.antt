use Rattle.schedules.proofs.EscapeLaws.{spelled_bytes_read, read_bytes_spelled}
use Rattle.schedules.proofs.text_laws.spelled_bytes_are_read.Goals as goal

-- what spells bytes is read as them
pub returns-clause-read : goal.returns-clause-read
returns-clause-read c = spelled_bytes_read

-- what is read as bytes spells them
pub returns-clause-spelled : goal.returns-clause-spelled
returns-clause-spelled c = read_bytes_spelled
