use Rattle.std.proofs.Common.{◌≡◌, ◌+◌, ◌<◌, ◌^◌, length}
use Rattle.schedules.specs.Splits.{lines, counted_from}
use Rattle.schedules.proofs.lines.Lines.next_counted.Given as goal

-- the lines that count among those left are those from the start on; taken and left together are all
abbrev pub invariant-loop-self : goal.invariant-loop-self
invariant-loop-self l = record {
  counted : counted_from (l.self-inside.taken + 1) (lines l.self-inside.rest.now)
      ≡ counted_from (l.initial.self-inside.taken + 1) (lines l.initial.self-inside.rest.now);
  all : l.self-inside.taken + length (lines l.self-inside.rest.now)
      ≡ l.initial.self-inside.taken + length (lines l.initial.self-inside.rest.now);
  room : l.self-inside.taken + length l.self-inside.rest.now < 2 ^ 64;
}

-- each round less of the text is left
abbrev pub decreases-loop-self : goal.decreases-loop-self
decreases-loop-self l = length l.self-inside.rest.now
