use Rattle.schedules.proofs.BadLineLaws.{named_first}
use Rattle.schedules.proofs.FirstBadLines.{first_named}
use Rattle.schedules.proofs.text_laws.first_bad_line_is_named.Goals as goal

-- the bad line that is named is the first that isn't as stated
pub returns-clause-first : goal.returns-clause-first
returns-clause-first c = named_first

-- the first line that isn't as stated is the bad line that is named
pub returns-clause-named : goal.returns-clause-named
returns-clause-named c = first_named
