use Rattle.std.proofs.Common.{◌≡◌, take}
use Rattle.control_messages.specs.Spellings.{spelled}
use Rattle.control_messages.proofs.spelling.bytes_of.Given as goal

-- the bytes of the numbers so far
abbrev pub invariant-loop-number : goal.invariant-loop-number
invariant-loop-number l = l.bytes.items ≡ spelled (take l.number-index l.numbers)
