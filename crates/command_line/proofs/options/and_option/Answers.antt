use Rattle.command_line.proofs.Parsers.{option_added}
use Rattle.command_line.proofs.options.and_option.Goals as goal

pub returns-in-Ok : goal.returns-in-Ok
returns-in-Ok c = option_added c.in-Ok.parser _ _ _ c.in-Ok.is c.arg.ensures
