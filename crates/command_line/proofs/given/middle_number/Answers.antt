use Rattle.std.proofs.Common.{arith}
use Rattle.clap.specs.Words.{found_of}
use Rattle.command_line.proofs.Found.{gives_no_number, gives_number, same_number}
use Rattle.command_line.proofs.given.middle_number.Goals as goal

pub returns-in_err-number-clause-none : goal.returns-in_err-number-clause-none
returns-in_err-number-clause-none c = λ none.
    gives_no_number 32 (found_of c.args.given.now) c.args.id.now c.args.least c.args.greatest (omega arith)
    (λ t e. (c.in_err-number.ensures.value t e).1.0)

pub returns-then-number-least-clause-none : goal.returns-then-number-least-clause-none
returns-then-number-least-clause-none c = λ none n given.
    let range = same_number 32 (found_of c.args.given.now) c.args.id.now c.args.least c.args.greatest c.in_ok-number.number n
    (λ t e. (c.in_ok-number.ensures.value t e).0) given in
    absurd (omega arith)

pub returns-then-greatest-number-clause-none : goal.returns-then-greatest-number-clause-none
returns-then-greatest-number-clause-none c = λ none n given.
    let range = same_number 32 (found_of c.args.given.now) c.args.id.now c.args.least c.args.greatest c.in_ok-number.number n
    (λ t e. (c.in_ok-number.ensures.value t e).0) given in
    absurd (omega arith)

pub returns-clause-given : goal.returns-clause-given
returns-clause-given c =
    gives_number 32 (found_of c.args.given.now) c.args.id.now c.args.least c.args.greatest c.in_ok-number.number (omega arith) (omega arith)
    c.in_ok-number.ensures.none (λ t e. (c.in_ok-number.ensures.value t e).0)
