use Rattle.std.proofs.Common.{◌≡◌, take, fold}
use Rattle.table.specs.Keys.{hash_with}
use Rattle.hash_index.proofs.places.hash_of.Given as goal

abbrev pub invariant-loop-b : goal.invariant-loop-b
invariant-loop-b l = l.hash ≡ fold hash_with 0 (take l.b-index l.bytes)
