use Rattle.std.proofs.Common.{◌≡◌, drop, fold}
use Rattle.faces.specs.Shown.{applied}
use Rattle.faces.proofs.faces.Face.act_all.Given as goal

abbrev pub invariant-loop-act : goal.invariant-loop-act
invariant-loop-act l =
    fold applied l.self (drop l.act-index l.acts) ≡ fold applied l.initial.self l.acts
