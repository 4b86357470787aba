use Rattle.std.proofs.Common.{rules, ◌≡◌, ◌∙◌, ◌<◌, ◌≤◌, ap, length, slice_index_or}
use Rattle.link_streams.specs.Streams.{unwritten}
use Rattle.links.specs.PeerLinks.{unwritten_at}
use Rattle.links.proofs.PeerLinked.{unwritten_there, unwritten_beyond}
use Rattle.links.proofs.peer_links.unwritten_of.Goals as goal

pub returns-then-place-links : goal.returns-then-place-links
returns-then-place-links g c =
    let links = c.args.links.now in
    let link = c.index-links-place.result in
    let same : c.from-place.result ≡ c.args.to = search rules in
    let within : c.from-place.result < length links = search rules in
    let at : link ≡ slice_index_or links c.from-place.result link = search rules in
    c.unwritten.ensures
    ∙ ap (λ l. length (unwritten l.stream)) at
    ∙ unwritten_there c.from-place.result links link within
    ∙ ap (λ k. unwritten_at links k) same

pub returns-else-place-links : goal.returns-else-place-links
returns-else-place-links g c =
    let out : length c.args.links.now ≤ c.args.to = search rules in
    unwritten_beyond c.args.to c.args.links.now out
