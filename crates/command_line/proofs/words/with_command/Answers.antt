use Rattle.command_line.proofs.Parsers.{adds_command}
use Rattle.command_line.proofs.words.with_command.Goals as goal

pub returns-in-Ok : goal.returns-in-Ok
returns-in-Ok c = adds_command c.args.program c.in-Ok.command c.args.command _ c.in-Ok.is c.subcommand.ensures
