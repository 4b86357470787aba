use Rattle.std.proofs.Common.{IfSome, Some, inr, subst, sym}
use Rattle.clap.specs.Words.{subcommand_rows_of}
use Rattle.command_line.specs.Words.{IsNamed}
use Rattle.command_line.proofs.words.named.Goals as goal

pub returns-in_ok-no_command-in-None-clause-served : goal.returns-in_ok-no_command-in-None-clause-served
returns-in_ok-no_command-in-None-clause-served c taken =
    absurd (c.in_ok-command.ensures.none c.in-None.is taken.1
    (subst (λ o. IsNamed o taken.1) (sym c.in_ok-matches.ensures.found) taken.2))

pub returns-in_ok-no_command-in-None-clause-refused : goal.returns-in_ok-no_command-in-None-clause-refused
returns-in_ok-no_command-in-None-clause-refused c =
    inr (inr (c.in_ok-matches.ensures.taken, c.in_ok-no_command-in-None.ensures))

pub returns-in-Some-clause-named : goal.returns-in-Some-clause-named
returns-in-Some-clause-named c =
    let given : IfSome (Some c.in-Some.command) (IsNamed (subcommand_rows_of c.in_ok-matches.matches)) =
    subst (λ o. IfSome o (IsNamed (subcommand_rows_of c.in_ok-matches.matches))) c.in-Some.is
    c.in_ok-command.ensures.given in
    subst (λ o. IsNamed o c.in-Some.command) c.in_ok-matches.ensures.found given

pub returns-in_err-no_command-in-None-clause-served : goal.returns-in_err-no_command-in-None-clause-served
returns-in_err-no_command-in-None-clause-served c taken =
    absurd (c.in_ok-command.ensures.none c.in-None.is taken.1
    (subst (λ o. IsNamed o taken.1) (sym c.in_ok-matches.ensures.found) taken.2))
