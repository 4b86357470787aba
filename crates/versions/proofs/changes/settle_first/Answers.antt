use Rattle.versions.specs.Records.{base_of}
use Rattle.versions.proofs.Holding.{more_dropped, more_settled}
use Rattle.versions.proofs.changes.settle_first.Goals as goal

-- one entry more has moved to the base
pub loop-moved-preserved : goal.loop-moved-preserved
loop-moved-preserved c =
    let before = c.loop-moved.invariant in
    let step = c.settle_next.ensures in
    record {
      left = more_dropped c.loop-moved._moved c.args.entries.now.items _ _ before.left step.entries;
      indexed = step.index;
      settled = more_settled (base_of c.args.records.now.entries) c.loop-moved._moved c.args.entries.now.items _ _ _
          before.left before.settled step.base;
    }
