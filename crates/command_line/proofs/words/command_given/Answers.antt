use Rattle.command_line.proofs.Found.{none_if, unnamed}
use Rattle.command_line.proofs.words.command_given.Goals as goal

pub returns-in-None-clause-none : goal.returns-in-None-clause-none
returns-in-None-clause-none c = λ none. unnamed _ (c.file_given.ensures.none (none_if _ c.in_default.not-Some))
    (c.file_given-2.ensures.none (none_if _ c.in_default-file_given.not-Some))
    (c.file_given-3.ensures.none (none_if _ c.in_default-file_given-2.not-Some))
    (c.numbers_given.ensures.none (none_if _ c.in_default-numbers_given.not-Some))
    (c.in_ok-process.ensures.no_server c.in-None.is)
    (c.in_ok-process.ensures.no_master c.in-None.is)
