use Rattle.std.proofs.Common.{refl, rules}
use Rattle.proto.proofs.LoneSetLaws.{lone_set_stands}
use Rattle.proto.proofs.lone_sets.lone_set.Goals as goal

-- the plain set that is read stands at the front
pub returns-in-Ok : goal.returns-in-Ok
returns-in-Ok c =
    lone_set_stands c.args.bytes.now c.in-Some.set.key.now c.in-Some-2.key c.in-Some.set.flags c.in-Some.set.silent
    c.in-Some.set.block.now c.in-Ok.block c.in-Some.set.rest.now _ c.in-Some.ensures (search rules) (search rules)
    (search rules) refl
