-- The words of `cluster`, by clap's own account of what a parser finds in words.
use Rattle.std.specs.Prelude.{◌≡◌, List, codes, Option, Some, pos}
use Rattle.clap.specs.Words.{App, Row, Rule, Text, new_app, with_rule}
use Rattle.clap.specs.declared.builder.command.Command.{Command}
use Rattle.clap.specs.declared.builder.value_parser.ValueParser.TheVariants.{Signed, Unsigned}
use Rattle.command_line.specs.Options.{GivesFlag, GivesNumber, GivesNumberIfAny, ReadsAs}
use Rattle.command_line.specs.Options.{flag_rule, number_or_rule, number_rule, required_rule}
use Rattle.command_line.specs.declared.cluster_numbers.ClusterNumbers.{ClusterNumbers}

-- `--servers N`, `--port P`, `--seats S`, `--threads T`, `--connections C`, `--serves K` and `--memory MIB`, with their
-- least and their greatest numbers; `--quiet`
abbrev pub servers_rule : Rule
servers_rule = required_rule (codes "servers") (Signed (pos 1) (pos 16))

abbrev pub port_rule : Rule
port_rule = required_rule (codes "port") (Signed (pos 1) (pos 65520))

abbrev pub seats_rule : Rule
seats_rule = number_or_rule (codes "seats") (Signed (pos 1) (pos 64)) (codes "64")

abbrev pub threads_rule : Rule
threads_rule = number_rule (codes "threads") (Signed (pos 1) (pos 16))

abbrev pub connections_rule : Rule
connections_rule = number_or_rule (codes "connections") (Signed (pos 1) (pos 65536)) (codes "1024")

abbrev pub serves_rule : Rule
serves_rule = number_or_rule (codes "serves") (Unsigned 0 1000000) (codes "0")

abbrev pub memory_rule : Rule
memory_rule = number_rule (codes "memory") (Signed (pos 1) (pos 1048576))

abbrev pub quiet_rule : Rule
quiet_rule = flag_rule (codes "quiet")

-- a command with the options that say how clients are served
abbrev pub with_serving : App → App
with_serving app =
    let serving = with_rule (with_rule (with_rule app seats_rule) threads_rule) connections_rule in
    with_rule (with_rule serving memory_rule) quiet_rule

-- clap reads the second parser as the first one with these options
abbrev pub AddsServing : Command → Command → Type 0
AddsServing before after = (app : App) → ReadsAs app before → ReadsAs (with_serving app) after

-- `cluster` with its options
abbrev pub cluster_app : App
cluster_app =
    let listening = with_rule (with_rule (new_app (codes "cluster")) servers_rule) port_rule in
    with_serving (with_rule listening serves_rule)

-- the command that was found is `cluster`, with these numbers
pub record NamesNumbers (found : Option (Text × List Row)) (numbers : ClusterNumbers) : Type 0 where
  pub rows : List Row
  pub named : found ≡ Some (codes "cluster", rows)
  pub servers : GivesNumber 1 16 (codes "servers") rows numbers.servers
  pub port : GivesNumber 1 65520 (codes "port") rows numbers.port
  pub seats : GivesNumber 1 64 (codes "seats") rows numbers.seats
  pub threads : GivesNumberIfAny 1 16 (codes "threads") rows numbers.threads
  pub connections : GivesNumber 1 65536 (codes "connections") rows numbers.connections
  pub serves : GivesNumber 0 1000000 (codes "serves") rows numbers.serves
  pub memory : GivesNumberIfAny 1 1048576 (codes "memory") rows numbers.memory
  pub quiet : GivesFlag (codes "quiet") rows numbers.quiet
