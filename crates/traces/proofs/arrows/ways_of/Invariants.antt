use Rattle.std.proofs.Common.{◌≡◌, ◌++◌, drop, map, flat_map}
use Rattle.schedules.specs.Settling.{first_numbers}
use Rattle.traces.specs.Arrows.{calls_from, link_way, links_from, replies_from}
use Rattle.traces.proofs.arrows.ways_of.Given as goal

abbrev pub invariant-loop-c : goal.invariant-loop-c
invariant-loop-c l = l.ways.items ++ calls_from l.c (drop l.c l.homes) ≡ l.initial.ways.items ++ calls_from 0 l.homes

abbrev pub invariant-loop-i : goal.invariant-loop-i
invariant-loop-i l = l.ways.items ≡ l.initial.ways.items ++ flat_map (links_from l.count) (first_numbers l.i)

abbrev pub invariant-loop-j : goal.invariant-loop-j
invariant-loop-j l = l.ways.items ≡ l.initial.ways.items ++ map (link_way l.i) (first_numbers l.j)

abbrev pub invariant-loop-c-2 : goal.invariant-loop-c-2
invariant-loop-c-2 l =
    l.ways.items ++ replies_from l.c (drop l.c l.homes) ≡ l.initial.ways.items ++ replies_from 0 l.homes
