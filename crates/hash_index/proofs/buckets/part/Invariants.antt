use Rattle.std.proofs.Common.{◌≡◌, ◌++◌, ◌-◌, ◌+◌, ◌≤◌, take, drop, length}
use Rattle.std.specs.List.{filter}
use Rattle.std.specs.Vec.{vec_len, vec_capacity}
use Rattle.hash_index.specs.Entries.{going, staying}
use Rattle.hash_index.proofs.buckets.part.Given as goal

-- what has been looked at is where it belongs; what is left is still to be looked at
abbrev pub invariant-loop-i : goal.invariant-loop-i
invariant-loop-i g l = record {
  within : l.i ≤ length l.slots.items;
  stay : filter (staying l.half l.count) l.initial.slots.items
      ≡ take l.i l.slots.items ++ filter (staying l.half l.count) (drop l.i l.slots.items);
  go : l.initial.fresh.items ++ filter (going l.half l.count) l.initial.slots.items
      ≡ l.fresh.items ++ filter (going l.half l.count) (drop l.i l.slots.items);
  room : vec_len l.fresh + length (filter (going l.half l.count) (drop l.i l.slots.items)) ≤ vec_capacity l.fresh;
}

abbrev pub decreases-loop-i : goal.decreases-loop-i
decreases-loop-i g l = length l.slots.items - l.i
