use Rattle.std.proofs.Common.{ap, codes, option_map, string_bytes, ◌∙◌}
use Rattle.clap.specs.Words.{found_of}
use Rattle.command_line.proofs.Found.{first_given, none_given, none_if}
use Rattle.command_line.proofs.process_words.hosts_given.Goals as goal

pub returns-in_default-2-clause-none : goal.returns-in_default-2-clause-none
returns-in_default-2-clause-none c = λ none hosts n.
    none_given _ string_bytes (found_of c.in-Some.given.now) _ c.args.name.now (codes "address") n.rows _
    c.in-Some.ensures.given c.in_ok-address.ensures (none_if _ c.in_default-2.not-Some) n.named n.address

pub returns-in_default-3-clause-none : goal.returns-in_default-3-clause-none
returns-in_default-3-clause-none c = λ none hosts n.
    none_given _ string_bytes (found_of c.in-Some.given.now) _ c.args.name.now (codes "chain") n.rows _
    c.in-Some.ensures.given c.in_ok-chain.ensures (none_if _ c.in_default-3.not-Some) n.named n.chain

pub returns-clause-given : goal.returns-clause-given
returns-clause-given c =
    let f = found_of c.in-Some.given.now in
    record {
      rows = _;
      named = c.in-Some.ensures.given;
      address = first_given _ string_bytes f (codes "address") c.in_ok-address.ensures
          ∙ ap (λ o. option_map string_bytes o) c.in-Some-2.is;
      peers = first_given _ string_bytes f (codes "peers") c.in_ok-peers.ensures;
      chain = first_given _ string_bytes f (codes "chain") c.in_ok-chain.ensures
          ∙ ap (λ o. option_map string_bytes o) c.in-Some-3.is;
    }
