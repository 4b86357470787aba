use Rattle.faces.specs.Showing.{pending}
use Rattle.faces.proofs.BoardRuleLaws.{unchanged_later}
use Rattle.faces.proofs.boards.begin.Goals as goal

pub show-requires-clause-later : goal.show-requires-clause-later
show-requires-clause-later g c =
    unchanged_later c.args.writer.desk.shown.value (pending c.args.writer) c.requires.nothing
