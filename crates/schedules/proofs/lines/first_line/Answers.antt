use Rattle.schedules.proofs.SplitPlaces.{lines_at, lines_whole}
use Rattle.schedules.proofs.lines.first_line.Goals as goal

-- what stands before the first LF is the first line, and the others stand after it
pub returns-in-Some-clause-lines : goal.returns-in-Some-clause-lines
returns-in-Some-clause-lines c = lines_at c.args.text.now _ c.requires c.in-Some.ensures.parts

-- a text without LF is one line
pub returns-in-None-clause-lines : goal.returns-in-None-clause-lines
returns-in-None-clause-lines c = lines_whole c.args.text.now c.requires c.in-None.ensures.parts
