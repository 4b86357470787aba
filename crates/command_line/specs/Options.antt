-- The arguments of commands, by what clap reads of them, and the numbers that they give.
use Rattle.std.specs.Prelude.{◌≡◌, ◌↔◌, ◌≤◌, ℕ, List, [], ◌∷◌, Bool, Option, None, Some, true, false, codes}
use Rattle.std.specs.Prelude.{IfOk, Result}
use Rattle.std.specs.declared.alloc.AllocError.{AllocError}
use Rattle.std.specs.Str.Parse.{IsNumeral, digits_value, without_leading_plus}
use Rattle.clap.specs.Words.{App, Row, Rule, app_of, first_of, new_rule, one_of, rule_of, with_rule}
use Rattle.clap.specs.declared.builder.ArgAction.TheVariants.{Set, SetTrue}
use Rattle.clap.specs.declared.builder.arg.Arg.{Arg}
use Rattle.clap.specs.declared.builder.command.Command.{Command}
use Rattle.clap.specs.declared.builder.command.Command.TheViews.{out-Command}
use Rattle.clap.specs.declared.builder.value_parser.ValueParser.{ValueParser}

-- FILE, which has to be given
abbrev pub file_rule : Rule
file_rule = record (new_rule (codes "FILE")) { required = true; action = Some Set }

-- an option with a text
abbrev pub text_rule : List ℕ → Rule
text_rule name = record (new_rule name) { long = Some name; value_names = 1 }

-- an option without a value, for which clap finds the text `true` if it is given, and else `false`
abbrev pub flag_rule : List ℕ → Rule
flag_rule name = record (new_rule name) { long = Some name; action = Some SetTrue }

-- an option with one of these numbers
abbrev pub number_rule : List ℕ → ValueParser → Rule
number_rule name numbers = record (text_rule name) { parser = Some numbers }

-- the same, which has to be given
abbrev pub required_rule : List ℕ → ValueParser → Rule
required_rule name numbers = record (number_rule name numbers) { required = true }

-- the same, which is this number if it isn't given
abbrev pub number_or_rule : List ℕ → ValueParser → List ℕ → Rule
number_or_rule name numbers text = record (number_rule name numbers) { defaults = text ∷ [] }

-- the argument has this rule, and is its own command's alone
abbrev pub HasRule : Rule → Arg → Type 0
HasRule rule arg = (rule_of arg ≡ rule) × (arg.global ≡ false)

-- clap reads the parser as this command, and its arguments are its own
abbrev pub ReadsAs : App → Command → Type 0
ReadsAs app parser = (app_of parser ≡ app) × ((out-Command parser).has_globals ≡ false)

-- the second parser is the first one with this option, if that was made, by what clap reads of each
abbrev pub AddsOption : Result Command AllocError → Arg → Result Command AllocError → Type 0
AddsOption before option after = (app : App) (rule : Rule) → IfOk before (ReadsAs app) → HasRule rule option →
    IfOk after (ReadsAs (with_rule app rule))

-- the option of this name has a decimal number from least to greatest, which is this one
abbrev pub GivesNumber : ℕ → ℕ → List ℕ → List Row → ℕ → Type 0
GivesNumber least greatest name rows n =
    (text : List ℕ) × (one_of name rows ≡ Some text) × IsNumeral 10 (without_leading_plus text) ×
    (n ≡ digits_value 10 (without_leading_plus text)) × (least ≤ n) × (n ≤ greatest)

-- the option of this name has such a number, or it wasn't given and there is none
abbrev pub GivesNumberIfAny : ℕ → ℕ → List ℕ → List Row → Option ℕ → Type 0
GivesNumberIfAny least greatest name rows None = first_of name rows ≡ None
GivesNumberIfAny least greatest name rows (Some n) = GivesNumber least greatest name rows n

-- the option of this name was given, or this is false
abbrev pub GivesFlag : List ℕ → List Row → Bool → Type 0
GivesFlag name rows flag = (flag ≡ true) ↔ (first_of name rows ≡ Some (codes "true"))
