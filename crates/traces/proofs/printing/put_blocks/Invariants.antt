use Rattle.std.proofs.Common.{◌≡◌, ◌++◌, take, zip, flat_map}
use Rattle.traces.specs.Printing.{block}
use Rattle.traces.proofs.printing.put_blocks.Given as goal

abbrev pub invariant-loop-place : goal.invariant-loop-place
invariant-loop-place l =
    l.text ≡ l.initial.text ++ flat_map (block l.count) (take l.place (zip l.events l.event_effects))
