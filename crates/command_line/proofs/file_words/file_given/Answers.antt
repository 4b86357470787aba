use Rattle.clap.specs.Words.{found_of}
use Rattle.command_line.proofs.Found.{names_file, names_no_file}
use Rattle.command_line.proofs.file_words.file_given.Goals as goal

pub returns-clause-given : goal.returns-clause-given
returns-clause-given c =
    names_file _ (λ file. file.now) (found_of c.in_ok-given.given.now) _ c.args.name.now
    c.in_ok-given.ensures.given c.get_str.ensures

pub returns-clause-none : goal.returns-clause-none
returns-clause-none c =
    names_no_file _ (λ file. file.now) (found_of c.in_ok-given.given.now) _ c.args.name.now
    c.in_ok-given.ensures.given c.get_str.ensures
