use Rattle.std.proofs.Common.{◌≡◌, true, false}
use Rattle.hash_index.proofs.EntryLaws.{key_found, none_more, same}
use Rattle.hash_index.proofs.buckets.find.Goals as goal

pub returns-then-is_eq-clause-key : goal.returns-then-is_eq-clause-key
returns-then-is_eq-clause-key g c =
    let t : same c.args.key.now c.index-slots-i.result.0 ≡ true = cc in
    key_found c.args.slots.now c.loop-i.i c.index-slots-i.result c.args.key.now c.loop-i-test.true c.index-slots-i.is
    t

pub loop-i-preserved : goal.loop-i-preserved
loop-i-preserved g c =
    let t : same c.args.key.now c.index-slots-i.result.0 ≡ false = cc in
    none_more c.args.slots.now c.loop-i.i c.index-slots-i.result c.args.key.now c.loop-i-test.true c.index-slots-i.is
    t
    c.loop-i.invariant
