use Rattle.command_line.proofs.Parsers.{command_added_to}
use Rattle.command_line.proofs.words.and_command.Goals as goal

pub returns-in-Ok : goal.returns-in-Ok
returns-in-Ok c = command_added_to c.in-Ok.program _ _ _ c.in-Ok.is c.with_command.ensures
