use Rattle.std.proofs.Common.{rules, ◌≡◌, ◌<◌, ◌≤◌, length, slice_index_or, true, false}
use Rattle.links.specs.PeerLinks.{connected, disconnected, may_connect}
use Rattle.links.proofs.PeerLinked.{changed_to, changed_beyond, meets_to, meets_beyond, on_ok, on_err}
use Rattle.links.proofs.peer_links.connect_to.Goals as goal

pub returns-then-place-len-clause-connected : goal.returns-then-place-len-clause-connected
returns-then-place-len-clause-connected g c =
    let links = c.args.links.now.items in
    let was = c.index_mut.result.now in
    let same : c.from-place.result ≡ c.args.to = search rules in
    let within : c.from-place.result < length links = search rules in
    let at : was ≡ slice_index_or links c.from-place.result was = search rules in
    on_ok c.connect.result
    (changed_to (connected c.args.sink c.args.count) c.from-place.result c.args.to links was c.connect.new.self same
    within at)
    c.connect.ensures.connected

pub returns-then-place-len-clause-refused : goal.returns-then-place-len-clause-refused
returns-then-place-len-clause-refused g c =
    let links = c.args.links.now.items in
    let was = c.index_mut.result.now in
    let same : c.from-place.result ≡ c.args.to = search rules in
    let within : c.from-place.result < length links = search rules in
    let at : was ≡ slice_index_or links c.from-place.result was = search rules in
    on_err c.connect.result
    (changed_to disconnected c.from-place.result c.args.to links was c.connect.new.self same within at)
    c.connect.ensures.refused

pub returns-then-place-len-clause-may : goal.returns-then-place-len-clause-may
returns-then-place-len-clause-may g c =
    let links = c.args.links.now.items in
    let was = c.index_mut.result.now in
    let same : c.from-place.result ≡ c.args.to = search rules in
    let within : c.from-place.result < length links = search rules in
    let at : was ≡ slice_index_or links c.from-place.result was = search rules in
    on_ok c.connect.result
    (meets_to (may_connect c.args.start c.args.count) c.from-place.result c.args.to links was true same within at)
    c.connect.ensures.may

pub returns-then-place-len-clause-may_not : goal.returns-then-place-len-clause-may_not
returns-then-place-len-clause-may_not g c =
    let links = c.args.links.now.items in
    let was = c.index_mut.result.now in
    let same : c.from-place.result ≡ c.args.to = search rules in
    let within : c.from-place.result < length links = search rules in
    let at : was ≡ slice_index_or links c.from-place.result was = search rules in
    on_err c.connect.result
    (meets_to (may_connect c.args.start c.args.count) c.from-place.result c.args.to links was false same within at)
    c.connect.ensures.may_not

pub returns-else-place-len-clause-refused : goal.returns-else-place-len-clause-refused
returns-else-place-len-clause-refused g c =
    let out : length c.args.links.now.items ≤ c.args.to = search rules in
    changed_beyond disconnected c.args.to c.args.links.now.items out

pub returns-else-place-len-clause-may_not : goal.returns-else-place-len-clause-may_not
returns-else-place-len-clause-may_not g c =
    let out : length c.args.links.now.items ≤ c.args.to = search rules in
    meets_beyond (may_connect c.args.start c.args.count) c.args.to c.args.links.now.items out
