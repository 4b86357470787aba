use Rattle.std.proofs.Common.{rules, ◌≡◌, ◌<◌, ◌≤◌, length, slice_index_or}
use Rattle.links.specs.PeerLinks.{disconnected}
use Rattle.links.proofs.PeerLinked.{changed_to, changed_beyond}
use Rattle.links.proofs.peer_links.disconnect_from.Goals as goal

pub returns-then-place-len : goal.returns-then-place-len
returns-then-place-len g c =
    let links = c.args.links.now.items in
    let was = c.index_mut.result.now in
    let same : c.from-place.result ≡ c.args.to = search rules in
    let within : c.from-place.result < length links = search rules in
    let at : was ≡ slice_index_or links c.from-place.result was = search rules in
    changed_to disconnected c.from-place.result c.args.to links was c.disconnect.new.self same within at
    c.disconnect.ensures

pub returns-else-place-len : goal.returns-else-place-len
returns-else-place-len g c =
    let out : length c.args.links.now.items ≤ c.args.to = search rules in
    changed_beyond disconnected c.args.to c.args.links.now.items out
