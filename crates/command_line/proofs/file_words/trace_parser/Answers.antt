use Rattle.std.proofs.Common.{codes, rules}
use Rattle.clap.specs.Words.{new_app}
use Rattle.command_line.proofs.Parsers.{with_option}
use Rattle.command_line.specs.Options.{ReadsAs}
use Rattle.command_line.proofs.file_words.trace_parser.Goals as goal

pub returns : goal.returns
returns c =
    let named : ReadsAs (new_app (codes "trace")) c.about.result = search rules in
    with_option _ _ _ _ _ named c.file_argument.ensures c.in_ok-command.ensures
