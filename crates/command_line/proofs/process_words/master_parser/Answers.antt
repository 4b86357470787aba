use Rattle.std.proofs.Common.{codes, rules}
use Rattle.std.proofs.lemmas.Result.{IfOk-weaker}
use Rattle.clap.specs.Words.{new_app}
use Rattle.command_line.proofs.Parsers.{reads_made}
use Rattle.command_line.specs.Options.{ReadsAs}
use Rattle.command_line.proofs.process_words.master_parser.Goals as goal

pub returns : goal.returns
returns c =
    let named : ReadsAs (new_app (codes "master")) c.about-named.result = search rules in
    let servers = c.and_option-servers.ensures _ _ named c.servers_option.ensures in
    let peer_port = c.and_option-peer_port.ensures _ _ servers c.peer_port_option.ensures in
    let watch = c.and_option-watch.ensures _ _ peer_port c.watch_option.ensures in
    let beat = c.and_option-beat.ensures _ _ watch c.beat_option.ensures in
    let made = c.and_option-after.ensures _ _ beat c.after_option.ensures in
    let after = reads_made _ _ _ c.in_ok-after.was made in
    IfOk-weaker c.with_hosts.result _ _ (λ parser adds. adds _ after) c.with_hosts.ensures
