use Rattle.std.proofs.Common.{codes, refl}
use Rattle.command_line.specs.Options.{GivesNumberIfAny}
use Rattle.command_line.proofs.Found.{given_none, rows_none}
use Rattle.command_line.proofs.process_words.server_numbers.Goals as goal

pub returns-in_err-id-clause-none : goal.returns-in_err-id-clause-none
returns-in_err-id-clause-none c = λ none numbers n.
    given_none _ _ _ _ _ _ _ c.in_ok-given.ensures.given n.named (c.in_err-id.ensures.none refl) _ n.id

pub returns-in_err-servers-clause-none : goal.returns-in_err-servers-clause-none
returns-in_err-servers-clause-none c = λ none numbers n.
    given_none _ _ _ _ _ _ _ c.in_ok-given.ensures.given n.named (c.in_err-servers.ensures.none refl) _ n.servers

pub returns-in_err-port-clause-none : goal.returns-in_err-port-clause-none
returns-in_err-port-clause-none c = λ none numbers n.
    given_none _ _ _ _ _ _ _ c.in_ok-given.ensures.given n.named (c.in_err-port.ensures.none refl) _ n.port

pub returns-in_err-peer_port-clause-none : goal.returns-in_err-peer_port-clause-none
returns-in_err-peer_port-clause-none c = λ none numbers n.
    given_none _ _ _ _ _ _ _ c.in_ok-given.ensures.given n.named (c.in_err-peer_port.ensures.none refl) _ n.peer_port

pub returns-in_err-seats-clause-none : goal.returns-in_err-seats-clause-none
returns-in_err-seats-clause-none c = λ none numbers n.
    given_none _ _ _ _ _ _ _ c.in_ok-given.ensures.given n.named (c.in_err-seats.ensures.none refl) _ n.seats

pub returns-in_err-threads-clause-none : goal.returns-in_err-threads-clause-none
returns-in_err-threads-clause-none c = λ none numbers n.
    rows_none (GivesNumberIfAny 1 16 (codes "threads")) _ _ _ _ c.in_ok-given.ensures.given n.named
    (c.in_err-threads.ensures.none refl) _ n.threads

pub returns-in_err-connections-clause-none : goal.returns-in_err-connections-clause-none
returns-in_err-connections-clause-none c = λ none numbers n.
    given_none _ _ _ _ _ _ _ c.in_ok-given.ensures.given n.named (c.in_err-connections.ensures.none refl) _
    n.connections

pub returns-in_err-memory-clause-none : goal.returns-in_err-memory-clause-none
returns-in_err-memory-clause-none c = λ none numbers n.
    rows_none (GivesNumberIfAny 1 1048576 (codes "memory")) _ _ _ _ c.in_ok-given.ensures.given n.named
    (c.in_err-memory.ensures.none refl) _ n.memory

pub returns-in_err-lease-clause-none : goal.returns-in_err-lease-clause-none
returns-in_err-lease-clause-none c = λ none numbers n.
    rows_none (GivesNumberIfAny 1 3600 (codes "lease")) _ _ _ _ c.in_ok-given.ensures.given n.named
    (c.in_err-lease.ensures.none refl) _ n.lease

pub returns-in_err-link_timeout-clause-none : goal.returns-in_err-link_timeout-clause-none
returns-in_err-link_timeout-clause-none c = λ none numbers n.
    given_none _ _ _ _ _ _ _ c.in_ok-given.ensures.given n.named (c.in_err-link_timeout.ensures.none refl) _
    n.link_timeout
