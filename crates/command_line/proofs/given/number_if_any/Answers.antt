use Rattle.std.proofs.Common.{refl}
use Rattle.clap.specs.Words.{found_of}
use Rattle.command_line.proofs.Found.{no_number_if_any, not_given}
use Rattle.command_line.proofs.given.number_if_any.Goals as goal

pub returns-in_err-number-in-Some-clause-none : goal.returns-in_err-number-in-Some-clause-none
returns-in_err-number-in-Some-clause-none c = λ none.
    no_number_if_any c.get_str.result _ (λ text. text.now) (found_of c.args.given.now) c.args.least c.args.greatest
    c.args.id.now c.get_str.ensures c.in-Some.is (c.in_err-number-in-Some.ensures.none refl)

pub returns-in-None-clause-given : goal.returns-in-None-clause-given
returns-in-None-clause-given c =
    not_given c.get_str.result (λ text. text.now) (found_of c.args.given.now) c.args.id.now c.get_str.ensures c.in-None.is
