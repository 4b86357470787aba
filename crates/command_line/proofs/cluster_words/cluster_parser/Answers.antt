use Rattle.std.proofs.Common.{codes, rules}
use Rattle.std.proofs.lemmas.Result.{IfOk-weaker}
use Rattle.clap.specs.Words.{new_app}
use Rattle.command_line.proofs.Parsers.{reads_made}
use Rattle.command_line.specs.Options.{ReadsAs}
use Rattle.command_line.proofs.cluster_words.cluster_parser.Goals as goal

pub returns : goal.returns
returns c =
    let named : ReadsAs (new_app (codes "cluster")) c.about-named.result = search rules in
    let servers = c.and_option-servers.ensures _ _ named c.servers_option.ensures in
    let port = c.and_option-port.ensures _ _ servers c.port_option.ensures in
    let made = c.and_option-serves.ensures _ _ port c.serves_option.ensures in
    let serves = reads_made _ _ _ c.in_ok-serves.was made in
    IfOk-weaker c.with_serving.result _ _ (λ parser adds. adds _ serves) c.with_serving.ensures
