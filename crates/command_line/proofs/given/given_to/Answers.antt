use Rattle.clap.specs.Words.{found_of, rows_of}
use Rattle.command_line.proofs.Found.{found_given, found_none}
use Rattle.command_line.proofs.given.given_to.Goals as goal

pub returns-clause-given : goal.returns-clause-given
returns-clause-given c =
    found_given _ (λ m. rows_of (found_of m.now)) c.args.matches.now c.args.name.now
    c.subcommand_matches.ensures.found c.subcommand_matches.ensures.rows

pub returns-clause-none : goal.returns-clause-none
returns-clause-none c = found_none _ c.args.matches.now c.args.name.now c.subcommand_matches.ensures.found
