use Rattle.std.proofs.Common.{◌≡◌, take, drop}
use Rattle.versions.specs.Stores.{items_after}
use Rattle.versions.specs.Records.{IsIndex, base_of}
use Rattle.versions.proofs.changes.settle_first.Given as goal

-- so far the first entries have moved to the base, and the index is that of those left
abbrev pub invariant-loop-moved : goal.invariant-loop-moved
invariant-loop-moved l = record {
  left : l.entries.items ≡ drop l._moved l.initial.entries.items;
  indexed : IsIndex l.records.entries l.clears l.entries.items;
  settled : base_of l.records.entries ≡ items_after (base_of l.initial.records.entries)
      (take l._moved l.initial.entries.items);
}
