use Rattle.wire.specs.Spellings.{eight_bytes}
use Rattle.wire.proofs.Appends.{then_more, spelled_so}
use Rattle.wire.proofs.spelling.put_beat.Goals as goal

-- a beat is written field by field
pub returns : goal.returns
returns c =
    let beat = c.args.beat.now in
    let old = c.args.out.now.items in
    let reigning = c.extend_reserved.new.self.items in
    let done = c.extend_reserved-2.new.self.items in
    let epoch = eight_bytes beat.epoch in
    let stamp = eight_bytes beat.stamp in
    let epoch_put = spelled_so old reigning c.to_be_bytes.result epoch c.extend_reserved.ensures.items
    c.to_be_bytes.ensures in
    let stamp_put = spelled_so reigning done c.to_be_bytes-2.result stamp c.extend_reserved-2.ensures.items
    c.to_be_bytes-2.ensures in
    then_more old reigning done epoch stamp epoch_put stamp_put
