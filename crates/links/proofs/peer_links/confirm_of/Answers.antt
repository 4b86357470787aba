use Rattle.std.proofs.Common.{rules, ◌≡◌, ◌<◌, ◌≤◌, length, slice_index_or, true, false}
use Rattle.link_streams.specs.Streams.{may_confirm}
use Rattle.links.specs.PeerLinks.{confirmed}
use Rattle.links.proofs.PeerLinked.{changed_to, meets_to, meets_beyond, may_be_refused, may_be_taken, on_ok, on_err}
use Rattle.links.proofs.peer_links.confirm_of.Goals as goal

pub returns-then-place-len-clause-confirmed : goal.returns-then-place-len-clause-confirmed
returns-then-place-len-clause-confirmed g c =
    let links = c.args.links.now.items in
    let was = c.index_mut.result.now in
    let same : c.from-place.result ≡ c.args.to = search rules in
    let within : c.from-place.result < length links = search rules in
    let at : was ≡ slice_index_or links c.from-place.result was = search rules in
    on_ok c.confirm.result
    (changed_to (confirmed c.args.count) c.from-place.result c.args.to links was c.confirm.new.self same within at)
    c.confirm.ensures.confirmed

pub returns-then-place-len-clause-may : goal.returns-then-place-len-clause-may
returns-then-place-len-clause-may g c =
    let links = c.args.links.now.items in
    let was = c.index_mut.result.now in
    let same : c.from-place.result ≡ c.args.to = search rules in
    let within : c.from-place.result < length links = search rules in
    let at : was ≡ slice_index_or links c.from-place.result was = search rules in
    on_ok c.confirm.result
    (meets_to (λ link. may_confirm link.stream c.args.count) c.from-place.result c.args.to links was true same within
    at)
    (may_be_taken c.confirm.result (may_confirm was.stream c.args.count) c.confirm.ensures.unsent)

pub returns-then-place-len-clause-may_not : goal.returns-then-place-len-clause-may_not
returns-then-place-len-clause-may_not g c =
    let links = c.args.links.now.items in
    let was = c.index_mut.result.now in
    let same : c.from-place.result ≡ c.args.to = search rules in
    let within : c.from-place.result < length links = search rules in
    let at : was ≡ slice_index_or links c.from-place.result was = search rules in
    on_err c.confirm.result
    (meets_to (λ link. may_confirm link.stream c.args.count) c.from-place.result c.args.to links was false same within
    at)
    (may_be_refused c.confirm.result (may_confirm was.stream c.args.count) c.confirm.ensures.unsent
    c.confirm.ensures.fault)

pub returns-else-place-len-clause-may_not : goal.returns-else-place-len-clause-may_not
returns-else-place-len-clause-may_not g c =
    let out : length c.args.links.now.items ≤ c.args.to = search rules in
    meets_beyond (λ link. may_confirm link.stream c.args.count) c.args.to c.args.links.now.items out
