use Rattle.schedules.proofs.FirstBadLines.{some_meaning, not_both, one_bad_line}
use Rattle.schedules.proofs.ScheduleLaws.{one_schedule}
use Rattle.schedules.proofs.text_laws.one_meaning_of_a_text.Goals as goal

-- each text spells a schedule, or has a first bad line
pub returns-clause-some : goal.returns-clause-some
returns-clause-some c = some_meaning

-- none has both
pub returns-clause-not_both : goal.returns-clause-not_both
returns-clause-not_both c = not_both

-- a text spells one schedule at most
pub returns-clause-one_schedule : goal.returns-clause-one_schedule
returns-clause-one_schedule c = one_schedule

-- a text has one first bad line at most
pub returns-clause-one_bad_line : goal.returns-clause-one_bad_line
returns-clause-one_bad_line c = one_bad_line
