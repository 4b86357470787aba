use Rattle.std.proofs.Common.{◌<◌, length, arith, rules}
use Rattle.std.proofs.lemmas.List.{length-set}
use Rattle.hash_index.proofs.RetainLaws.{next_stays, next_goes, next_within, all_looked_at, fewer}
use Rattle.hash_index.proofs.buckets.retain.Goals as goal

-- the slot stays
pub loop-i-preserved-then-stays : goal.loop-i-preserved-then-stays
loop-i-preserved-then-stays g c =
    let within : c.loop-i.i < length c.loop-i.slots.items = search rules in
    let same = length-set c.loop-i.slots.items c.loop-i.i c.stays.new.slot in
    record {
      within = omega (arith, within, same);
      left = next_stays g.R.Retain.outcome c.args.slots.now.items c.loop-i.slots.items c.loop-i.i
          c.index_mut.result.now c.stays.new.slot within c.index_mut.ensures.value c.if-stays.ensures.key
          c.if-stays.ensures.outcome c.loop-i.invariant.left;
    }

-- the slot goes
pub loop-i-preserved : goal.loop-i-preserved
loop-i-preserved g c =
    let within : c.loop-i.i < length c.loop-i.slots.items = search rules in
    record {
      within = next_within g.R.Retain.outcome c.args.slots.now.items c.loop-i.slots.items c.loop-i.i
          c.index_mut.result.now c.stays.new.slot within c.index_mut.ensures.value c.remove.new.self.items
          c.remove.ensures.items;
      left = next_goes g.R.Retain.outcome c.args.slots.now.items c.loop-i.slots.items c.loop-i.i
          c.index_mut.result.now c.stays.new.slot within c.index_mut.ensures.value c.remove.new.self.items
          c.remove.ensures.items c.if-stays.ensures.outcome c.loop-i.invariant.left;
    }

pub returns-clause-kept : goal.returns-clause-kept
returns-clause-kept g c =
    all_looked_at g.R.Retain.outcome c.args.slots.now.items c.loop-i.slots.items c.loop-i.i c.loop-i.invariant.left
    (omega (arith, c.loop-i-test.false))

pub returns-clause-fewer : goal.returns-clause-fewer
returns-clause-fewer g c =
    fewer g.R.Retain.outcome c.args.slots.now.items c.loop-i.slots.items (returns-clause-kept g c)
