-- What a command line asks for.
use Rattle.std.specs.Prelude.{◌≡◌, ℕ, List, [], ◌∷◌}
use Rattle.clap.specs.Kinds.{IsAmong}
use Rattle.clap.specs.Words.{fault_of, subcommand_of}
use Rattle.clap.specs.declared.error.kind.ErrorKind.TheVariants.{DisplayVersion}
use Rattle.command_line.specs.Words.{IsNamed, program_app}
use Rattle.command_line.specs.declared.commands.Command.{Command}
use Rattle.command_line.specs.declared.commands.Command.TheVariants.{Print, Tell, Serve}
use Rattle.command_line.specs.declared.commands.Print.TheVariants.{Scenario, Version}

-- clap's account of the parser finds no fault in the words, and they name the command with its arguments
abbrev pub IsFound : List (List ℕ) → Command → Type 0
IsFound words command = (fault_of program_app words ≡ []) × IsNamed (subcommand_of program_app words) command

-- the words ask for the command: it is found in them; or what the account finds first is that they ask for the version
abbrev pub IsAskedFor : List (List ℕ) → Command → Type 0
IsAskedFor words (Print (Scenario file)) = IsFound words (Print (Scenario file))
IsAskedFor words (Print Version) = IsAmong DisplayVersion (fault_of program_app words)
IsAskedFor words (Tell telling file) = IsFound words (Tell telling file)
IsAskedFor words (Serve serve) = IsFound words (Serve serve)

-- the words ask for the version
abbrev pub AskForVersion : List (List ℕ) → Type 0
AskForVersion words = fault_of program_app words ≡ DisplayVersion ∷ []
