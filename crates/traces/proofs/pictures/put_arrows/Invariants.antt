use Rattle.std.proofs.Common.{◌≡◌, ◌++◌, take, flat_map}
use Rattle.std.specs.String.{string_bytes}
use Rattle.traces.specs.Pictures.{arrow_text}
use Rattle.traces.proofs.pictures.put_arrows.Given as goal

abbrev pub invariant-loop-arrow : goal.invariant-loop-arrow
invariant-loop-arrow l =
    string_bytes l.out ≡ string_bytes l.initial.out ++ flat_map (arrow_text l.lanes) (take l.arrow-index l.arrows)
