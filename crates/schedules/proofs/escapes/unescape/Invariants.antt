use Rattle.std.proofs.Common.{◌≡◌, ◌+◌, ◌-◌, ◌≤◌, length}
use Rattle.schedules.specs.Escapes.{unescape}
use Rattle.schedules.proofs.Texts.{read_on}
use Rattle.schedules.proofs.escapes.unescape.Given as goal

-- the bytes so far with those that the rest spells are those of the text; there is room for as many
abbrev pub invariant-loop-rest : goal.invariant-loop-rest
invariant-loop-rest l = record {
  room : length l.rest + length l.bytes.items ≤ length l.text;
  read : read_on l.bytes.items (length l.text - length l.bytes.items) l.rest ≡ unescape l.text;
}

-- each round less of the text is left
abbrev pub decreases-loop-rest : goal.decreases-loop-rest
decreases-loop-rest l = length l.rest
