use Rattle.std.proofs.Common.{◌++◌}
use Rattle.std.specs.Int.{w16, to_be_bytes}
use Rattle.wire.specs.Spellings.{eight_bytes}
use Rattle.wire.proofs.Appends.{then_more, spelled_so}
use Rattle.wire.proofs.spelling.put_alive.Goals as goal

-- how a server is, is written field by field
pub returns : goal.returns
returns c =
    let alive = c.args.alive.now in
    let old = c.args.out.now.items in
    let epoch_out = c.extend_reserved.new.self.items in
    let stamped = c.extend_reserved-2.new.self.items in
    let ended = c.extend_reserved-3.new.self.items in
    let timed = c.extend_reserved-4.new.self.items in
    let lost = c.extend_reserved-5.new.self.items in
    let done = c.extend_reserved-6.new.self.items in
    let epoch = eight_bytes alive.epoch in
    let stamp = eight_bytes alive.stamp in
    let end = eight_bytes alive.end in
    let term = eight_bytes alive.term in
    let gone = to_be_bytes w16 alive.gone in
    let known = to_be_bytes w16 alive.known in
    let epoch_put = spelled_so old epoch_out c.to_be_bytes.result epoch c.extend_reserved.ensures.items
    c.to_be_bytes.ensures in
    let stamp_put = spelled_so epoch_out stamped c.to_be_bytes-2.result stamp c.extend_reserved-2.ensures.items
    c.to_be_bytes-2.ensures in
    let end_put = spelled_so stamped ended c.to_be_bytes-3.result end c.extend_reserved-3.ensures.items
    c.to_be_bytes-3.ensures in
    let term_put = spelled_so ended timed c.to_be_bytes-4.result term c.extend_reserved-4.ensures.items
    c.to_be_bytes-4.ensures in
    let gone_put = spelled_so timed lost c.to_be_bytes-5.result gone c.extend_reserved-5.ensures.items
    c.to_be_bytes-5.ensures in
    let known_put = spelled_so lost done c.to_be_bytes-6.result known c.extend_reserved-6.ensures.items
    c.to_be_bytes-6.ensures in
    then_more old epoch_out done epoch (stamp ++ (end ++ (term ++ (gone ++ known)))) epoch_put
    (then_more epoch_out stamped done stamp (end ++ (term ++ (gone ++ known))) stamp_put
    (then_more stamped ended done end (term ++ (gone ++ known)) end_put
    (then_more ended timed done term (gone ++ known) term_put
    (then_more timed lost done gone known gone_put known_put))))
