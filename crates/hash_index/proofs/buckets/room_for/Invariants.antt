use Rattle.std.proofs.Common.{◌≡◌, ◌≤◌, take, length}
use Rattle.std.specs.List.{filter}
use Rattle.hash_index.specs.Entries.{going}
use Rattle.hash_index.proofs.buckets.room_for.Given as goal

abbrev pub invariant-loop-slot : goal.invariant-loop-slot
invariant-loop-slot g l = record {
  few : l.room ≤ l.slot-index;
  is : l.room ≡ length (filter (going l.half l.count) (take l.slot-index l.slots));
}
