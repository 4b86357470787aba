use Rattle.std.proofs.Common.{arith}
use Rattle.clap.specs.Words.{found_of}
use Rattle.command_line.proofs.Found.{gives_no_number, gives_number, same_number}
use Rattle.command_line.proofs.given.port_number.Goals as goal

pub returns-in_err-port-clause-none : goal.returns-in_err-port-clause-none
returns-in_err-port-clause-none c = λ none.
    gives_no_number 16 (found_of c.args.given.now) c.args.id.now 1 c.args.greatest (omega arith)
    (λ t e. (c.in_err-port.ensures.value t e).1.0)

pub returns-then-port-lt1-clause-none : goal.returns-then-port-lt1-clause-none
returns-then-port-lt1-clause-none c = λ none n given.
    let range = same_number 16 (found_of c.args.given.now) c.args.id.now 1 c.args.greatest c.in_ok-port.port n
    (λ t e. (c.in_ok-port.ensures.value t e).0) given in
    absurd (omega arith)

pub returns-then-greatest-port-clause-none : goal.returns-then-greatest-port-clause-none
returns-then-greatest-port-clause-none c = λ none n given.
    let range = same_number 16 (found_of c.args.given.now) c.args.id.now 1 c.args.greatest c.in_ok-port.port n
    (λ t e. (c.in_ok-port.ensures.value t e).0) given in
    absurd (omega arith)

pub returns-clause-given : goal.returns-clause-given
returns-clause-given c =
    gives_number 16 (found_of c.args.given.now) c.args.id.now 1 c.args.greatest c.in_ok-port.port (omega arith) (omega arith)
    c.in_ok-port.ensures.none (λ t e. (c.in_ok-port.ensures.value t e).0)
