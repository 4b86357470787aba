use Rattle.std.proofs.Common.{◌≡◌, ◌++◌, drop, map, option_map}
use Rattle.schedules.specs.HeadLines.{numbers_below}
use Rattle.schedules.proofs.head_lines.numbers_below.Given as goal

-- the numbers so far with those of the fields that are left are the numbers of all
abbrev pub invariant-loop-field : goal.invariant-loop-field
invariant-loop-field l =
    option_map (λ more. l.numbers.items ++ more)
    (numbers_below l.high (map (λ field. field.now) (drop l.field-index l.fields)))
    ≡ numbers_below l.high (map (λ field. field.now) l.fields)
