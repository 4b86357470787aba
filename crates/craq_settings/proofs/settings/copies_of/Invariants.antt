use Rattle.std.proofs.Common.{◌≡◌, map, take}
use Rattle.craq_settings.specs.Hosts.{texts}
use Rattle.craq_settings.proofs.settings.copies_of.Given as goal

abbrev pub invariant-loop-part : goal.invariant-loop-part
invariant-loop-part l = texts l.copies.items ≡ map (λ part. part.now) (take l.part-index l.parts)
