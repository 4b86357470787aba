-- The command line, by clap's own account of what a parser finds in words.
use Rattle.std.specs.Prelude.{◌≡◌, ◌⊎◌, ℕ, List, [], codes, IfOk, Option, Result, true, string_bytes}
use Rattle.std.specs.declared.alloc.AllocError.{AllocError}
use Rattle.clap.specs.Words.{App, Row, Text, app_of, new_app, subcommand_of, takes, with_subcommand}
use Rattle.clap.specs.Kinds.{IsAmong}
use Rattle.clap.specs.declared.builder.command.Command.{Command as Parser}
use Rattle.clap.specs.declared.error.kind.ErrorKind.{ErrorKind}
use Rattle.clap.specs.declared.error.kind.ErrorKind.TheVariants.{MissingSubcommand, OutOfMemory}
use Rattle.command_line.specs.ClusterWords.{NamesNumbers, cluster_app}
use Rattle.command_line.specs.FileWords.{NamesFile, file_app}
use Rattle.command_line.specs.Options.{ReadsAs}
use Rattle.command_line.specs.ProcessWords.{NamesHosts, NamesMaster, NamesServer, master_app, server_app}
use Rattle.command_line.specs.declared.commands.Command.{Command}
use Rattle.command_line.specs.declared.commands.Command.TheVariants.{Print, Tell, Serve}
use Rattle.command_line.specs.declared.commands.Print.TheVariants.{Scenario, Version}
use Rattle.command_line.specs.declared.commands.Serve.TheVariants.{Cluster, Server, Master}
use Rattle.command_line.specs.declared.commands.Telling.{Telling}
use Rattle.command_line.specs.declared.commands.Telling.TheVariants.{Trace, Draw}

-- the program, which has a version, and of which a command has to be named
abbrev pub named_app : App
named_app =
    let named = new_app (codes "craq") in
    record named { top = record named.top { has_version = true; subcommand_required = true } }

-- the program with its commands
unfoldable pub program_app : App
program_app =
    let scenario = with_subcommand named_app (file_app (codes "scenario")).top in
    let trace = with_subcommand scenario (file_app (codes "trace")).top in
    let draw = with_subcommand trace (file_app (codes "draw")).top in
    let cluster = with_subcommand draw cluster_app.top in
    let server = with_subcommand cluster server_app.top in
    with_subcommand server master_app.top

-- the second parser is the first one with this command, if that was made, by what clap reads of each
abbrev pub AddsCommand : Parser → Result Parser AllocError → Parser → Type 0
AddsCommand before command after = (program app : App) → app_of before ≡ program → IfOk command (ReadsAs app) →
    app_of after ≡ with_subcommand program app.top

-- the second parser is the first one with this command, if both were made, by what clap reads of each
abbrev pub AddsCommandIfMade : Result Parser AllocError → Result Parser AllocError → Result Parser AllocError → Type 0
AddsCommandIfMade before command after = (program app : App) → IfOk before (λ parser. app_of parser ≡ program) →
    IfOk command (ReadsAs app) → IfOk after (λ parser. app_of parser ≡ with_subcommand program app.top)

-- the name of a command that tells what a schedule does
abbrev pub telling_name : Telling → List ℕ
telling_name Trace = codes "trace"
telling_name Draw = codes "draw"

-- what was found names this command, with its arguments
abbrev pub IsNamed : Option (Text × List Row) → Command → Type 0
IsNamed found (Print (Scenario file)) = NamesFile (codes "scenario") found (string_bytes file)
IsNamed found (Print Version) = ⊥
IsNamed found (Tell telling file) = NamesFile (telling_name telling) found (string_bytes file)
IsNamed found (Serve (Cluster numbers)) = NamesNumbers found numbers
IsNamed found (Serve (Server numbers hosts)) = NamesServer found numbers × NamesHosts (codes "server") found hosts
IsNamed found (Serve (Master numbers hosts)) = NamesMaster found numbers × NamesHosts (codes "master") found hosts

-- the parser takes these words, and they name a command
abbrev pub IsTaken : List (List ℕ) → Type 0
IsTaken words =
    (takes program_app words ≡ true) × (command : Command) × IsNamed (subcommand_of program_app words) command

-- the kind of an error of the parser, if its account finds these kinds: out of memory, one of them,
-- or, if there is none, that no command is named
abbrev pub IsRefusedFor : List ErrorKind → ErrorKind → Type 0
IsRefusedFor kinds kind =
    (kind ≡ OutOfMemory) ⊎ (IsAmong kind kinds ⊎ ((kinds ≡ []) × (kind ≡ MissingSubcommand)))
