use Rattle.std.proofs.Common.{◌∙◌, ap, codes, option_map}
use Rattle.clap.specs.Words.{found_of}
use Rattle.command_line.proofs.Found.{first_given, set_if, unset}
use Rattle.command_line.proofs.given.flag_given.Goals as goal

pub returns-in-Some : goal.returns-in-Some
returns-in-Some c = set_if _ c.in-Some.text.now (codes "true") _
    (first_given c.get_str.result (λ text. text.now) (found_of c.args.given.now) c.args.id.now c.get_str.ensures
    ∙ ap (λ o. option_map (λ text. text.now) o) c.in-Some.is)
    c.eq.ensures

pub returns-in-None : goal.returns-in-None
returns-in-None c = unset _
    (first_given c.get_str.result (λ text. text.now) (found_of c.args.given.now) c.args.id.now c.get_str.ensures
    ∙ ap (λ o. option_map (λ text. text.now) o) c.in-None.is)
