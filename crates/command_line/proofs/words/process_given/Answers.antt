use Rattle.command_line.proofs.Found.{none_if}
use Rattle.command_line.proofs.words.process_given.Goals as goal

pub returns-in-None-clause-no_server : goal.returns-in-None-clause-no_server
returns-in-None-clause-no_server c = λ none numbers hosts s h. c.in_ok-hosts.ensures.none c.in-None.is hosts h

pub returns-in-None-2-clause-no_master : goal.returns-in-None-2-clause-no_master
returns-in-None-2-clause-no_master c = λ none numbers hosts m h. c.in_ok-hosts-2.ensures.none c.in-None-2.is hosts h

pub returns-clause-no_server : goal.returns-clause-no_server
returns-clause-no_server c = λ none numbers hosts s h.
    c.server_numbers.ensures.none (none_if _ c.in_default.not-Some) numbers s

pub returns-clause-no_master : goal.returns-clause-no_master
returns-clause-no_master c = λ none numbers hosts m h.
    c.master_numbers.ensures.none (none_if _ c.in_default-master_numbers.not-Some) numbers m
