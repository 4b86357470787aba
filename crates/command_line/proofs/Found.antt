-- What clap found, as the command that was named and what it was given.
use Rattle.std.proofs.Common.{◌≡◌, ◌∙◌, ◌↔◌, ◌<◌, ◌≤◌, ◌^◌, ℕ, List, Bool, true, false, Option, None, Some, IfSome, IsSome, is_some, codes, option_map, refl, ap, sym, subst, arith, []}
use Rattle.std.proofs.lemmas.Slice.Eq.{bytes_eq-Decides}
use Rattle.std.specs.Str.{bytes_eq}
use Rattle.std.specs.Str.Parse.{IsNumeral, digits_value, without_leading_plus}
use Rattle.clap.proofs.WalkLemmas.{first_value-rows, one_text-rows}
use Rattle.clap.specs.Words.{HasMatchesOf, Row, Text, app_of, fault_of, first_of, first_value, is_simple, one_text, rows_of, subcommand_name_of, subcommand_of, subcommand_rows, subcommand_rows_of}
use Rattle.clap.specs.declared.builder.command.Command.{Command as Parser}
use Rattle.clap.specs.declared.parser.matches.ArgMatches.{ArgMatches}
use Rattle.clap.specs.declared.parser.matches.ArgMatches.TheViews.{out-ArgMatches}
use Rattle.clap.specs.declared.parser.matches.Found.{Found}
use Rattle.command_line.specs.ClusterWords.{NamesNumbers}
use Rattle.command_line.specs.Options.{GivesNumber, GivesNumberIfAny}
use Rattle.command_line.specs.Commands.{IsAskedFor}
use Rattle.command_line.specs.FileWords.{NamesFile}
use Rattle.command_line.specs.Words.{IsNamed, program_app}
use Rattle.command_line.specs.ProcessWords.{NamesHosts, NamesMaster, NamesServer}
use Rattle.command_line.specs.declared.cluster_numbers.ClusterNumbers.{ClusterNumbers}
use Rattle.command_line.specs.declared.processes.Hosts.{Hosts}
use Rattle.command_line.specs.declared.processes.MasterNumbers.{MasterNumbers}
use Rattle.command_line.specs.declared.processes.ServerNumbers.{ServerNumbers}
use Rattle.command_line.specs.declared.commands.Command.{Command}
use Rattle.command_line.specs.declared.commands.Command.TheVariants.{Print, Tell, Serve}
use Rattle.command_line.specs.declared.commands.Print.TheVariants.{Scenario, Version}
use Rattle.command_line.specs.declared.commands.Serve.TheVariants.{Cluster, Server, Master}
use Rattle.command_line.specs.declared.commands.Telling.TheVariants.{Trace, Draw}

-- a pair, part by part
both : {X Y : Type 0} (o : Option (X × Y)) (x : X) (y : Y)
    → option_map (λ p. p.0) o ≡ Some x
    → option_map (λ p. p.1) o ≡ Some y
    → o ≡ Some (x, y)
both None x y p q = cc
both (Some (a, b)) x y p q =
    let first : a ≡ x = cc in
    let second : b ≡ y = cc in
    rw (first, second) refl

-- the first parts of pairs that are made of what there is
firsts : {A X Y : Type 0} (f : A → X) (g : A → Y) (o : Option A)
    → option_map f o ≡ option_map (λ (p : X × Y). p.0) (option_map (λ a. (f a, g a)) o)
firsts f g None = refl
firsts f g (Some a) = refl

-- the name of the command that was found stands with its rows
named : (m : ArgMatches) → subcommand_name_of m ≡ option_map (λ p. p.0) (subcommand_rows_of m)
named m = firsts _ _ (out-ArgMatches m).subcommand

-- the matches of a command by its name are its rows
pub found_given : {X : Type 0} (r : Option X) (rows : X → List Row) (m : ArgMatches) (name : Text)
    → (IsSome r ↔ (subcommand_name_of m ≡ Some name))
    → IfSome r (λ x. option_map (λ p. p.1) (subcommand_rows (out-ArgMatches m).subcommand) ≡ Some (rows x))
    → IfSome r (λ x. subcommand_rows_of m ≡ Some (name, rows x))
found_given None rows m name is all = tt
found_given (Some x) rows m name is all = both (subcommand_rows_of m) name (rows x) (sym (named m) ∙ is.0 refl) all

-- and if there are none, another command was found
pub found_none : {X : Type 0} (r : Option X) (m : ArgMatches) (name : Text)
    → (IsSome r ↔ (subcommand_name_of m ≡ Some name)) → r ≡ None
    → (rows : List Row) → subcommand_rows_of m ≡ Some (name, rows) → ⊥
found_none r m name is none rows e =
    let some : is_some r ≡ true = is.1 (named m ∙ ap (λ o. option_map (λ p. p.0) o) e) in
    let bad : is_some r ≡ false = rw none refl in
    cc

some_same : {X : Type 0} (x y : X) → Some x ≡ Some y → x ≡ y
some_same x y e = cc

-- the rows of one command are the same
pub same_rows : {X Y : Type 0} (o : Option (X × Y)) (x : X) (y z : Y)
    → o ≡ Some (x, y)
    → o ≡ Some (x, z)
    → y ≡ z
same_rows o x y z p q = ap (λ p. p.1) (some_same _ _ (sym p ∙ q))

-- what is given by no rows that were found is given by no rows of the command
pub rows_none : {N : Type 0} (Gives : List Row → N → Type 0) (o : Option (Text × List Row)) (name : Text)
    (here rows : List Row)
    → o ≡ Some (name, here)
    → o ≡ Some (name, rows)
    → ((n : N) → Gives here n → ⊥)
    → (n : N) → Gives rows n → ⊥
rows_none Gives o name here rows p q none n given =
    none n (subst (λ (all : List Row). Gives all n) (sym (same_rows o name here rows p q)) given)

-- if no number is found in the rows of a command, none is given to it
pub given_none : (o : Option (Text × List Row)) (name : Text) (here rows : List Row) (least greatest : ℕ) (id : Text)
    → o ≡ Some (name, here)
    → o ≡ Some (name, rows)
    → ((n : ℕ) → GivesNumber least greatest id here n → ⊥)
    → (n : ℕ) → GivesNumber least greatest id rows n → ⊥
given_none o name here rows least greatest id = rows_none (λ all n. GivesNumber least greatest id all n) o name here rows

-- what is no value is none
pub none_if : {X : Type 0} (o : Option X) → ((x : X) → o ≡ Some x → ⊥) → o ≡ None
none_if None never = refl
none_if (Some x) never = absurd (never x refl)

-- the FILE that was given is the one that is named
pub names_file : {X : Type 0} (r : Option X) (now : X → Text) (f : Found) (o : Option (Text × List Row))
    (name : Text)
    → o ≡ Some (name, rows_of f)
    → option_map now r ≡ first_value f (codes "FILE")
    → IfSome r (λ file. NamesFile name o (now file))
names_file None now f o name e given = tt
names_file (Some x) now f o name e given = record {
  rows = rows_of f;
  named = e;
  given = sym (first_value-rows f (codes "FILE")) ∙ sym given;
}

-- and if none was given, none is named
pub names_no_file : {X : Type 0} (r : Option X) (now : X → Text) (f : Found) (o : Option (Text × List Row))
    (name : Text)
    → o ≡ Some (name, rows_of f)
    → option_map now r ≡ first_value f (codes "FILE")
    → r ≡ None
    → (file : List ℕ) → NamesFile name o file → ⊥
names_no_file r now f o name e given none file n =
    let same : rows_of f ≡ n.rows = same_rows o _ _ _ e n.named in
    let first : first_of (codes "FILE") (rows_of f) ≡ Some file = rw same n.given in
    let nothing : option_map now r ≡ None = rw none refl in
    let bad : Some file ≡ None = sym first ∙ (sym (first_value-rows f (codes "FILE")) ∙ (sym given ∙ nothing)) in
    cc

-- the first value of an option, as it was read
pub first_given : {X : Type 0} (r : Option X) (now : X → Text) (f : Found) (id : Text)
    → option_map now r ≡ first_value f id
    → first_of id (rows_of f) ≡ option_map now r
first_given r now f id given = sym (first_value-rows f id) ∙ sym given

-- if an option's text wasn't read, it isn't given
pub none_given : {X : Type 0} (r : Option X) (now : X → Text) (f : Found) (o : Option (Text × List Row))
    (name id : Text) (rows : List Row) (text : Text)
    → o ≡ Some (name, rows_of f)
    → option_map now r ≡ first_value f id
    → r ≡ None
    → o ≡ Some (name, rows)
    → first_of id rows ≡ Some text → ⊥
none_given r now f o name id rows text e given none named first =
    let same : rows_of f ≡ rows = same_rows o _ _ _ e named in
    let here : first_of id (rows_of f) ≡ Some text = rw same first in
    let nothing : option_map now r ≡ None = rw none refl in
    let bad : Some text ≡ None = sym here ∙ (sym (first_value-rows f id) ∙ (sym given ∙ nothing)) in
    cc

-- an option that wasn't read has no first value
pub not_given : {X : Type 0} (r : Option X) (now : X → Text) (f : Found) (id : Text)
    → option_map now r ≡ first_value f id
    → r ≡ None
    → first_of id (rows_of f) ≡ None
not_given r now f id given none = first_given r now f id given ∙ ap (λ o. option_map now o) none

-- an option that was read and has no such number gives neither one nor none
pub no_number_if_any : {X : Type 0} (r : Option X) (x : X) (now : X → Text) (f : Found) (least greatest : ℕ) (id : Text)
    → option_map now r ≡ first_value f id
    → r ≡ Some x
    → ((n : ℕ) → GivesNumber least greatest id (rows_of f) n → ⊥)
    → (number : Option ℕ) → GivesNumberIfAny least greatest id (rows_of f) number → ⊥
no_number_if_any r x now f least greatest id given some none None absent =
    let here = first_given r now f id given ∙ ap (λ o. option_map now o) some in
    let bad : None ≡ Some (now x) = sym absent ∙ here in
    cc
no_number_if_any r x now f least greatest id given some none (Some n) is = none n is

-- a flag without a text isn't set
pub unset : {X : Type 0} (o : Option X) {x : X}
    → o ≡ None
    → (false ≡ true) ↔ (o ≡ Some x)
unset o none = (
  λ yes. absurd (let no : true ≡ false = sym yes in cc),
  λ some. let bad : None ≡ Some _ = sym none ∙ some in cc,
)

-- a flag with a text is set if it is this one
pub set_if : (o : Option Text) (text word : Text) (same : Bool)
    → o ≡ Some text
    → same ≡ bytes_eq text word
    → (same ≡ true) ↔ (o ≡ Some word)
set_if o text word same some eq = (
  λ yes. some ∙ ap (λ t. Some t) ((bytes_eq-Decides text word).0 (sym eq ∙ yes)),
  λ is. eq ∙ (bytes_eq-Decides text word).1 (some_same _ _ (sym some ∙ is)),
)

-- a decimal number of this many bits
abbrev IsNumber : ℕ → List ℕ → Type 0
IsNumber bits t = IsNumeral 10 (without_leading_plus t) × (digits_value 10 (without_leading_plus t) < 2 ^ bits)

-- Of one option with a number of this many bits.
module _ (bits : ℕ) (f : Found) (id : Text) where
  number : (least greatest n : ℕ) (o : Option Text)
      → least ≤ n
      → n ≤ greatest
      → one_text f id ≡ o
      → (one_text f id ≡ None → Some n ≡ None)
      → ((t : List ℕ) → one_text f id ≡ Some t → IsNumber bits t × (n ≡ digits_value 10 (without_leading_plus t)))
      → GivesNumber least greatest id (rows_of f) n
  number least greatest n None low high e none reads = let bad : Some n ≡ None = none e in cc
  number least greatest n (Some t) low high e none reads =
      let p = reads t e in
      (t, sym (one_text-rows f id) ∙ e, p.0.0, p.1, low, high)

  -- the number that was read is the one that is given, if it is in range
  pub gives_number : (least greatest n : ℕ)
      → least ≤ n
      → n ≤ greatest
      → (one_text f id ≡ None → Some n ≡ None)
      → ((t : List ℕ) → one_text f id ≡ Some t → IsNumber bits t × (n ≡ digits_value 10 (without_leading_plus t)))
      → GivesNumber least greatest id (rows_of f) n
  gives_number least greatest n low high none reads = number least greatest n (one_text f id) low high refl none reads

  -- if none was read, none is given
  pub gives_no_number : (least greatest : ℕ)
      → greatest < 2 ^ bits
      → ((t : List ℕ) → one_text f id ≡ Some t → IsNumber bits t → ⊥)
      → (n : ℕ) → GivesNumber least greatest id (rows_of f) n → ⊥
  gives_no_number least greatest few reads n (t, one, numeral, value, low, high) =
      reads t (one_text-rows f id ∙ one) (numeral, subst (λ m. m < 2 ^ bits) value (omega arith))

  -- a number that is given is the one that was read
  pub same_number : (least greatest m n : ℕ)
      → ((t : List ℕ) → one_text f id ≡ Some t → IsNumber bits t × (m ≡ digits_value 10 (without_leading_plus t)))
      → GivesNumber least greatest id (rows_of f) n
      → (least ≤ m) × (m ≤ greatest)
  same_number least greatest m n reads (t, one, numeral, value, low, high) =
      let same : m ≡ n = (reads t (one_text-rows f id ∙ one)).1 ∙ sym value in
      rw same (low, high)

-- if no command's arguments are found, no command is named
pub unnamed : (o : Option (Text × List Row))
    → ((file : List ℕ) → NamesFile (codes "scenario") o file → ⊥)
    → ((file : List ℕ) → NamesFile (codes "trace") o file → ⊥)
    → ((file : List ℕ) → NamesFile (codes "draw") o file → ⊥)
    → ((numbers : ClusterNumbers) → NamesNumbers o numbers → ⊥)
    → ((numbers : ServerNumbers) (hosts : Hosts) → NamesServer o numbers → NamesHosts (codes "server") o hosts → ⊥)
    → ((numbers : MasterNumbers) (hosts : Hosts) → NamesMaster o numbers → NamesHosts (codes "master") o hosts → ⊥)
    → (command : Command) → IsNamed o command → ⊥
unnamed o scenario trace draw cluster server master (Print (Scenario file)) n = scenario _ n
unnamed o scenario trace draw cluster server master (Print Version) n = n
unnamed o scenario trace draw cluster server master (Tell Trace file) n = trace _ n
unnamed o scenario trace draw cluster server master (Tell Draw file) n = draw _ n
unnamed o scenario trace draw cluster server master (Serve (Cluster numbers)) n = cluster numbers n
unnamed o scenario trace draw cluster server master (Serve (Server numbers hosts)) n = server numbers hosts n.0 n.1
unnamed o scenario trace draw cluster server master (Serve (Master numbers hosts)) n = master numbers hosts n.0 n.1

-- a command that is found is asked for
pub asked : (words : List (List ℕ)) (command : Command) → fault_of program_app words ≡ []
    → IsNamed (subcommand_of program_app words) command → IsAskedFor words command
asked words (Print (Scenario file)) fine n = (fine, n)
asked words (Print Version) fine n = absurd n
asked words (Tell telling file) fine n = (fine, n)
asked words (Serve serve) fine n = (fine, n)

program_is_simple : is_simple program_app ≡ true
unfolding program_app
program_is_simple = refl

-- what a parse by the program's parser finds
pub found_as : (parser : Parser) (m : ArgMatches) (words : List Text) → app_of parser ≡ program_app
    → HasMatchesOf (app_of parser) words m → subcommand_rows_of m ≡ subcommand_of program_app words
found_as parser m words same has = (subst (λ a. HasMatchesOf a words m) same has program_is_simple).1
