use Rattle.std.proofs.Common.{refl}
use Rattle.command_line.proofs.Found.{given_none}
use Rattle.command_line.proofs.process_words.master_numbers.Goals as goal

pub returns-in_err-servers-clause-none : goal.returns-in_err-servers-clause-none
returns-in_err-servers-clause-none c = λ none numbers n.
    given_none _ _ _ _ _ _ _ c.in_ok-given.ensures.given n.named (c.in_err-servers.ensures.none refl) _ n.servers

pub returns-in_err-peer_port-clause-none : goal.returns-in_err-peer_port-clause-none
returns-in_err-peer_port-clause-none c = λ none numbers n.
    given_none _ _ _ _ _ _ _ c.in_ok-given.ensures.given n.named (c.in_err-peer_port.ensures.none refl) _ n.peer_port

pub returns-in_err-beat-clause-none : goal.returns-in_err-beat-clause-none
returns-in_err-beat-clause-none c = λ none numbers n.
    given_none _ _ _ _ _ _ _ c.in_ok-given.ensures.given n.named (c.in_err-beat.ensures.none refl) _ n.beat

pub returns-in_err-after-clause-none : goal.returns-in_err-after-clause-none
returns-in_err-after-clause-none c = λ none numbers n.
    given_none _ _ _ _ _ _ _ c.in_ok-given.ensures.given n.named (c.in_err-after.ensures.none refl) _ n.after
