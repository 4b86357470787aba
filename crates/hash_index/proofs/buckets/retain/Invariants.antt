use Rattle.std.proofs.Common.{◌-◌, ◌≤◌, length}
use Rattle.hash_index.proofs.RetainLaws.{IsLeftBy}
use Rattle.hash_index.proofs.buckets.retain.Given as goal

-- what has been looked at is what is left of it; the others are still to be looked at
abbrev pub invariant-loop-i : goal.invariant-loop-i
invariant-loop-i g l = record {
  within : l.i ≤ length l.slots.items;
  left : IsLeftBy g.R.Retain.outcome l.initial.slots.items l.slots.items l.i;
}

abbrev pub decreases-loop-i : goal.decreases-loop-i
decreases-loop-i g l = length l.slots.items - l.i
