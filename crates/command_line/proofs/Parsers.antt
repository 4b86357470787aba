-- The program's parser, and the kinds of its errors.
use Rattle.std.proofs.Common.{◌≡◌, ◌||◌, ◌≢◌, ◌⊎◌, ◌∙◌, ℕ, List, [], ◌∷◌, true, ap, ap₂, inl, inr, refl, sym, subst}
use Rattle.std.proofs.Common.{Result, Ok, Err, IfOk, IfErr, OnOk}
use Rattle.std.specs.declared.alloc.AllocError.{AllocError}
use Rattle.clap.specs.Kinds.{FailsBy, IsAmong, Kinds}
use Rattle.clap.specs.Words.{AddsArg, AddsSubcommand, App, HasMatchesOf, Rule, app_of, fault_of, is_simple_and_free}
use Rattle.clap.specs.Words.{kind_of, shape_of, subcommand_of, subcommand_rows_of, takes, with_rule, with_subcommand}
use Rattle.clap.specs.declared.builder.arg.Arg.{Arg}
use Rattle.clap.specs.declared.builder.command.Command.{Command}
use Rattle.clap.specs.declared.error.Error.{Error}
use Rattle.clap.specs.declared.error.kind.ErrorKind.{ErrorKind}
use Rattle.clap.specs.declared.error.kind.ErrorKind.TheVariants.{DisplayVersion, MissingSubcommand, OutOfMemory}
use Rattle.clap.specs.declared.parser.matches.ArgMatches.{ArgMatches}
use Rattle.command_line.proofs.Found.{found_as}
use Rattle.command_line.specs.Options.{AddsOption, HasRule, ReadsAs}
use Rattle.command_line.specs.Words.{AddsCommand, AddsCommandIfMade, IsRefusedFor, program_app}

-- a program and its command, by what clap reads of each
pub with_command : (old sub new : Command) (program command : App)
    → app_of old ≡ program
    → ReadsAs command sub
    → AddsSubcommand old sub new
    → app_of new ≡ with_subcommand program command.top
with_command old sub new program command p (q, local) adds =
    adds.shape local ∙ ap (λ a. with_subcommand a (shape_of sub)) p ∙ ap (λ (a : App). with_subcommand program a.top) q

-- a program with a command that was made
pub adds_command : (old sub : Command) (made r : Result Command AllocError)
    → made ≡ Ok sub
    → IfOk r (AddsSubcommand old sub)
    → IfOk r (AddsCommand old made)
adds_command old sub made (Ok new) is adds = λ program app same reads.
    with_command old sub new program app same (subst (λ m. IfOk m (ReadsAs app)) is reads) adds
adds_command old sub made (Err e) is adds = tt

-- and what clap reads of it, if there is one
pub command_added : (old : Command) (made r : Result Command AllocError) (program command : App)
    → IfOk r (AddsCommand old made)
    → app_of old ≡ program
    → IfOk made (ReadsAs command)
    → IfOk r (λ new. app_of new ≡ with_subcommand program command.top)
command_added old made (Ok new) program command adds same reads = adds program command same reads
command_added old made (Err e) program command adds same reads = tt

-- the same, if the program was made too
pub command_added_to : (old : Command) (before made after : Result Command AllocError)
    → before ≡ Ok old
    → IfOk after (AddsCommand old made)
    → AddsCommandIfMade before made after
command_added_to old before made after is adds program command same reads =
    command_added old made after program command adds (subst (λ b. IfOk b (λ p. app_of p ≡ program)) is same) reads

-- a command with one more argument, by what clap reads of each
pub with_option : (old new : Command) (option : Arg) (command : App) (rule : Rule)
    → ReadsAs command old
    → HasRule rule option
    → AddsArg old option new
    → ReadsAs (with_rule command rule) new
with_option old new option command rule (p, plain) (q, local) adds = (
  adds.shape local ∙ ap (λ r. with_rule (app_of old) r) q ∙ ap (λ (a : App). with_rule a rule) p,
  adds.globals ∙ ap₂ ◌||◌ plain local,
)

-- the same, if it was made
pub option_added : (old : Command) (made r : Result Command AllocError) (option : Arg)
    → made ≡ Ok old
    → IfOk r (AddsArg old option)
    → AddsOption made option r
option_added old made (Ok new) option is adds app rule reads has =
    with_option old new option app rule (subst (λ m. IfOk m (ReadsAs app)) is reads) has adds
option_added old made (Err e) option is adds app rule reads has = tt

-- what a change of a command makes of any command that clap reads
pub changes_any : (before : Command) (after : Result Command AllocError) (change : App → App)
    → ((app : App) → ReadsAs app before → IfOk after (ReadsAs (change app)))
    → IfOk after (λ made. (app : App) → ReadsAs app before → ReadsAs (change app) made)
changes_any before (Ok made) change changes = changes
changes_any before (Err e) change changes = tt

-- what clap reads of a command that was made
pub reads_made : (made : Result Command AllocError) (command : Command) (app : App)
    → made ≡ Ok command
    → IfOk made (ReadsAs app)
    → ReadsAs app command
reads_made made command app is reads = subst (λ m. IfOk m (ReadsAs app)) is reads

-- clap's account of the parser is exact
pub program_is_free : is_simple_and_free program_app ≡ true
unfolding program_app
program_is_free = refl

-- what an error of a parse is for
refused-for : (kinds : Kinds) (kind : ErrorKind)
    → (kind ≡ OutOfMemory) ⊎ IsAmong kind kinds
    → IsRefusedFor kinds kind
refused-for kinds kind (inl memory) = inl memory
refused-for kinds kind (inr among) = inr (inl among)

-- the same of a parser that the account reads as the program
pub refused-by : (parser : Command) (words : List (List ℕ)) (kind : ErrorKind)
    → app_of parser ≡ program_app
    → (kind ≡ OutOfMemory) ⊎ IsAmong kind (fault_of (app_of parser) words)
    → IsRefusedFor (fault_of program_app words) kind
refused-by parser words kind same kinds =
    refused-for _ kind (subst (λ (a : App). (kind ≡ OutOfMemory) ⊎ IsAmong kind (fault_of a words)) same kinds)

-- words that the parser takes have no fault
pub none-by : (parser : Command) (words : List (List ℕ))
    → app_of parser ≡ program_app
    → (is_simple_and_free (app_of parser) ≡ true → fault_of (app_of parser) words ≡ [])
    → fault_of program_app words ≡ []
none-by parser words same kinds =
    sym (ap (λ (a : App). fault_of a words) same) ∙ kinds (ap is_simple_and_free same ∙ program_is_free)

-- Of a parse by a parser that the account reads as the program.
module _ (parser : Command) (words : List (List ℕ)) (same : app_of parser ≡ program_app) where
  -- if it takes the words, they have no fault
  pub parse_taken : (r : Result ArgMatches Error)
      → (is_simple_and_free (app_of parser) ≡ true → FailsBy (fault_of (app_of parser) words) r)
      → OnOk r (fault_of program_app words ≡ [])
  parse_taken (Ok matches) kinds = none-by parser words same kinds
  parse_taken (Err e) kinds = tt

  -- it finds what the account finds
  pub parse_found : (r : Result ArgMatches Error)
      → IfOk r (HasMatchesOf (app_of parser) words)
      → IfOk r (λ matches. subcommand_rows_of matches ≡ subcommand_of program_app words)
  parse_found (Ok matches) has = found_as parser matches words same has
  parse_found (Err e) has = tt

  -- words that the account takes are refused only if memory is out
  pub parse_served : (r : Result ArgMatches Error)
      → IfErr r (λ e. takes (app_of parser) words ≡ true → kind_of e ≡ OutOfMemory)
      → takes program_app words ≡ true
      → IfErr r (λ e. kind_of e ≡ OutOfMemory)
  parse_served (Ok matches) passes taken = tt
  parse_served (Err e) passes taken = passes (ap (λ (a : App). takes a words) same ∙ taken)

  -- it refuses for what the account finds
  pub parse_refused : (r : Result ArgMatches Error)
      → (is_simple_and_free (app_of parser) ≡ true → FailsBy (fault_of (app_of parser) words) r)
      → IfErr r (λ e. IsRefusedFor (fault_of program_app words) (kind_of e))
  parse_refused (Ok matches) kinds = tt
  parse_refused (Err e) kinds =
      refused-by parser words (kind_of e) same (kinds (ap is_simple_and_free same ∙ program_is_free))

-- an error of the kind for a version comes if the account finds it
pub version_asked : (kinds : List ErrorKind) (kind : ErrorKind)
    → IsRefusedFor kinds kind
    → kind ≡ DisplayVersion
    → IsAmong DisplayVersion kinds
version_asked kinds kind (inl memory) version =
    let bad : OutOfMemory ≡ DisplayVersion = sym memory ∙ version in cc
version_asked kinds kind (inr (inl among)) version = subst (λ k. IsAmong k kinds) version among
version_asked kinds kind (inr (inr unnamed)) version =
    let bad : MissingSubcommand ≡ DisplayVersion = sym unnamed.1 ∙ version in cc

first-is-other : {kind : ErrorKind} → IsAmong kind (DisplayVersion ∷ []) → kind ≢ DisplayVersion → ⊥
first-is-other (inl same) other = other same
first-is-other (inr none) other = none

-- if the version is asked for, any other error is out of memory
pub version_served : (kinds : List ErrorKind) (kind : ErrorKind)
    → kinds ≡ DisplayVersion ∷ []
    → IsRefusedFor kinds kind
    → kind ≢ DisplayVersion
    → kind ≡ OutOfMemory
version_served kinds kind asked (inl memory) other = memory
version_served kinds kind asked (inr (inl among)) other =
    absurd (first-is-other (subst (λ ks. IsAmong kind ks) asked among) other)
version_served kinds kind asked (inr (inr unnamed)) other =
    let bad : [] ≡ DisplayVersion ∷ [] = sym unnamed.0 ∙ asked in cc
