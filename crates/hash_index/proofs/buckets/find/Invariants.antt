use Rattle.std.proofs.Common.{◌≡◌, take, None}
use Rattle.hash_index.specs.Entries.{value_at}
use Rattle.hash_index.proofs.buckets.find.Given as goal

abbrev pub invariant-loop-i : goal.invariant-loop-i
invariant-loop-i g l = value_at (take l.i l.slots) l.key ≡ None
