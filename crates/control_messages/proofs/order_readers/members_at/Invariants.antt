use Rattle.std.proofs.Common.{◌≡◌, ◌-◌, length, take}
use Rattle.control_messages.specs.Readings.{several_at}
use Rattle.control_messages.proofs.Loop.{with_front}
use Rattle.control_messages.proofs.order_readers.members_at.Given as goal

-- those that were read, and those that are still read
abbrev pub invariant-loop-place : goal.invariant-loop-place
invariant-loop-place l = record {
  size : length l.processes ≡ 16;
  read : with_front (take l.place l.processes) (several_at (16 - l.place) l.rest) ≡ several_at 16 l.bytes;
}
