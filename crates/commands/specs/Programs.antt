-- What the program writes to its output if it is asked to print something.
use Rattle.std.specs.Prelude.{◌≡◌, ◌++◌, ℕ, List, [], Bool, true, false, Result, Ok, Err}
use Rattle.std.specs.Prelude.{codes, string_bytes}
use Rattle.ends.specs.Ends.{WritesBeginning}
use Rattle.commands.specs.Scenarios.{Replays}
use Rattle.command_line.specs.declared.commands.Print.{Print}
use Rattle.command_line.specs.declared.commands.Print.TheVariants.{Scenario, Version}
use Rattle.command_line.specs.declared.commands.UsageFault.{UsageFault}
use Rattle.command_line.specs.declared.commands.UsageFault.TheVariants.{Memory, Usage}

-- what is printed if the version is asked for
abbrev pub version_line : List ℕ
version_line = codes "craq 0.1.0\n"

-- what is printed for what was asked: the text of what some schedule's run shows, or the version's line
abbrev pub IsOutput : Result Print UsageFault → List ℕ → Type 0
IsOutput (Ok (Scenario file)) shown = (text : List ℕ) × Replays text shown
IsOutput (Ok Version) shown = shown ≡ version_line
IsOutput (Err fault) shown = ⊥

-- such a text was written
abbrev pub WritesOutput : Result Print UsageFault → List ℕ → List ℕ → Type 0
WritesOutput asked before after = (shown : List ℕ) × IsOutput asked shown × (after ≡ before ++ shown)

-- a beginning of such a text was written, and nothing else
abbrev pub BeginsOutput : Result Print UsageFault → List ℕ → List ℕ → Type 0
BeginsOutput asked before after = (shown : List ℕ) × IsOutput asked shown × WritesBeginning before after shown

-- whether the arguments were no command
abbrev pub is_usage : Result Print UsageFault → Bool
is_usage (Ok print) = false
is_usage (Err Memory) = false
is_usage (Err (Usage text)) = true

-- the name of the file that was asked for, if one was
abbrev pub file_name : Result Print UsageFault → List ℕ
file_name (Ok (Scenario file)) = string_bytes file
file_name (Ok Version) = []
file_name (Err fault) = []
