use Rattle.faces.specs.Showing.{pending}
use Rattle.faces.proofs.BoardRuleLaws.{shows}
use Rattle.faces.proofs.boards.show.Goals as goal

pub publish_as-writer-requires : goal.publish_as-writer-requires
publish_as-writer-requires g c next is =
    shows _ _ c.args.writer.desk.shown.value next (pending c.args.writer) c.requires.later c.requires.face is
