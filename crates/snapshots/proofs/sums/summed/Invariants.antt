use Rattle.std.proofs.Common.{◌≡◌, ◌<◌, take}
use Rattle.std.specs.List.{fold}
use Rattle.snapshots.specs.Sums.{halves, with_byte}
use Rattle.snapshots.proofs.sums.summed.Given as goal

-- the halves after the bytes so far
abbrev pub invariant-loop-byte : goal.invariant-loop-byte
invariant-loop-byte l = record {
  same : halves l.low l.high ≡ fold with_byte (halves l.fn.low l.fn.high) (take l.byte-index l.bytes);
  low_bound : l.low < 65521;
  high_bound : l.high < 65521;
}
