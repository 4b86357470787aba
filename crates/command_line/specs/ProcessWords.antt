-- The words of `server` and `master`, by clap's own account of what a parser finds in words.
use Rattle.std.specs.Prelude.{◌≡◌, ℕ, List, [], ◌∷◌, codes, Option, Some, pos, option_map, string_bytes}
use Rattle.clap.specs.Words.{App, Row, Rule, Text, first_of, new_app, with_rule}
use Rattle.clap.specs.declared.builder.command.Command.{Command}
use Rattle.clap.specs.declared.builder.value_parser.ValueParser.TheVariants.{Signed}
use Rattle.command_line.specs.ClusterWords.{port_rule, servers_rule, with_serving}
use Rattle.command_line.specs.Options.{GivesFlag, GivesNumber, GivesNumberIfAny, ReadsAs}
use Rattle.command_line.specs.Options.{flag_rule, number_or_rule, number_rule, required_rule, text_rule}
use Rattle.command_line.specs.declared.processes.Hosts.{Hosts}
use Rattle.command_line.specs.declared.processes.MasterNumbers.{MasterNumbers}
use Rattle.command_line.specs.declared.processes.ServerNumbers.{ServerNumbers}

-- `--id I` and `--peer-port Q`, with their least and their greatest numbers
abbrev pub id_rule : Rule
id_rule = required_rule (codes "id") (Signed (pos 0) (pos 15))

abbrev pub peer_port_rule : Rule
peer_port_rule = required_rule (codes "peer-port") (Signed (pos 1) (pos 65520))

-- `--lease SECONDS`
abbrev pub lease_rule : Rule
lease_rule = number_rule (codes "lease") (Signed (pos 1) (pos 3600))

-- `--link-timeout MS`
abbrev pub link_timeout_rule : Rule
link_timeout_rule = number_or_rule (codes "link-timeout") (Signed (pos 10) (pos 3600000)) (codes "1000")

-- `--watch`, `--beat MS` and `--after MS`
abbrev pub watch_rule : Rule
watch_rule = flag_rule (codes "watch")

abbrev pub beat_rule : Rule
beat_rule = number_or_rule (codes "beat") (Signed (pos 1) (pos 3600000)) (codes "300")

abbrev pub after_rule : Rule
after_rule = number_or_rule (codes "after") (Signed (pos 2) (pos 3600000)) (codes "3000")

-- `--address A`, `--peers A0,A1,..` and `--chain NAME`
abbrev pub address_rule : Rule
address_rule = record (text_rule (codes "address")) { defaults = codes "127.0.0.1" ∷ [] }

abbrev pub peers_rule : Rule
peers_rule = text_rule (codes "peers")

abbrev pub chain_rule : Rule
chain_rule = record (text_rule (codes "chain")) { defaults = codes "craq" ∷ [] }

-- a command with these options
abbrev pub with_hosts : App → App
with_hosts app = with_rule (with_rule (with_rule app address_rule) peers_rule) chain_rule

-- clap reads the second parser as the first one with these options
abbrev pub AddsHosts : Command → Command → Type 0
AddsHosts before after = (app : App) → ReadsAs app before → ReadsAs (with_hosts app) after

-- `server` with its options
abbrev pub server_app : App
server_app =
    let chain = with_rule (with_rule (new_app (codes "server")) id_rule) servers_rule in
    let listening = with_rule (with_rule chain port_rule) peer_port_rule in
    with_hosts (with_serving (with_rule (with_rule listening lease_rule) link_timeout_rule))

-- `master` with its options
abbrev pub master_app : App
master_app =
    let chain = with_rule (with_rule (new_app (codes "master")) servers_rule) peer_port_rule in
    with_hosts (with_rule (with_rule (with_rule chain watch_rule) beat_rule) after_rule)

-- the command that was found is `server`, with these numbers
pub record NamesServer (found : Option (Text × List Row)) (numbers : ServerNumbers) : Type 0 where
  pub rows : List Row
  pub named : found ≡ Some (codes "server", rows)
  pub id : GivesNumber 0 15 (codes "id") rows numbers.id
  pub servers : GivesNumber 1 16 (codes "servers") rows numbers.servers
  pub port : GivesNumber 1 65520 (codes "port") rows numbers.port
  pub peer_port : GivesNumber 1 65520 (codes "peer-port") rows numbers.peer_port
  pub seats : GivesNumber 1 64 (codes "seats") rows numbers.seats
  pub threads : GivesNumberIfAny 1 16 (codes "threads") rows numbers.threads
  pub connections : GivesNumber 1 65536 (codes "connections") rows numbers.connections
  pub memory : GivesNumberIfAny 1 1048576 (codes "memory") rows numbers.memory
  pub lease : GivesNumberIfAny 1 3600 (codes "lease") rows numbers.lease
  pub link_timeout : GivesNumber 10 3600000 (codes "link-timeout") rows numbers.link_timeout
  pub quiet : GivesFlag (codes "quiet") rows numbers.quiet

-- the command that was found is `master`, with these numbers
pub record NamesMaster (found : Option (Text × List Row)) (numbers : MasterNumbers) : Type 0 where
  pub rows : List Row
  pub named : found ≡ Some (codes "master", rows)
  pub servers : GivesNumber 1 16 (codes "servers") rows numbers.servers
  pub peer_port : GivesNumber 1 65520 (codes "peer-port") rows numbers.peer_port
  pub watch : GivesFlag (codes "watch") rows numbers.watch
  pub beat : GivesNumber 1 3600000 (codes "beat") rows numbers.beat
  pub after : GivesNumber 2 3600000 (codes "after") rows numbers.after

-- the command that was found has this name, and these hosts with the chain's name
pub record NamesHosts (name : List ℕ) (found : Option (Text × List Row)) (hosts : Hosts) : Type 0 where
  pub rows : List Row
  pub named : found ≡ Some (name, rows)
  pub address : first_of (codes "address") rows ≡ Some (string_bytes hosts.address)
  pub peers : first_of (codes "peers") rows ≡ option_map string_bytes hosts.peers
  pub chain : first_of (codes "chain") rows ≡ Some (string_bytes hosts.chain)
