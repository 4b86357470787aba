use Rattle.std.proofs.Common.{codes, rules}
use Rattle.std.proofs.lemmas.Result.{IfOk-weaker}
use Rattle.clap.specs.Words.{new_app}
use Rattle.command_line.proofs.Parsers.{reads_made}
use Rattle.command_line.specs.Options.{ReadsAs}
use Rattle.command_line.proofs.process_words.server_parser.Goals as goal

pub returns : goal.returns
returns c =
    let named : ReadsAs (new_app (codes "server")) c.about-named.result = search rules in
    let id = c.and_option-id.ensures _ _ named c.id_option.ensures in
    let servers = c.and_option-servers.ensures _ _ id c.servers_option.ensures in
    let port = c.and_option-port.ensures _ _ servers c.port_option.ensures in
    let listening = c.and_option-listening.ensures _ _ port c.peer_port_option.ensures in
    let leased = c.and_option-leased.ensures _ _ listening c.lease_option.ensures in
    let made = c.and_option-timed.ensures _ _ leased c.link_timeout_option.ensures in
    let timed = reads_made _ _ _ c.in_ok-timed.was made in
    let serving = c.in_ok-serving.ensures _ timed in
    IfOk-weaker c.with_hosts.result _ _ (λ parser adds. adds _ serving) c.with_hosts.ensures
