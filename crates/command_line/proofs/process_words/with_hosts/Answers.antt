use Rattle.command_line.proofs.Parsers.{changes_any}
use Rattle.command_line.specs.ProcessWords.{with_hosts}
use Rattle.command_line.proofs.process_words.with_hosts.Goals as goal

pub returns : goal.returns
returns c = changes_any c.args.parser _ with_hosts (λ app reads.
    let address = c.and_option-address.ensures _ _ reads c.address_option.ensures in
    let peers = c.and_option-peers.ensures _ _ address c.peers_option.ensures in
    c.and_option.ensures _ _ peers c.chain_option.ensures)
