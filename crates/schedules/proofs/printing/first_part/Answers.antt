use Rattle.std.proofs.Common.{arith, add-one}
use Rattle.std.proofs.lemmas.Bool.{false_from_ne_true}
use Rattle.schedules.proofs.SplitPlaces.{parts_at, parts_whole}
use Rattle.schedules.proofs.printing.first_part.Goals as goal

-- what stands up to the first LF, with it, is the first part, and the others stand after it
pub returns-in-Some-clause-parts : goal.returns-in-Some-clause-parts
returns-in-Some-clause-parts c =
    let found = c.in-Some.ensures in
    rw (c.split_at.ensures.front, c.split_at.ensures.back, add-one)
    (parts_at c.args.sent.now c.in-Some.at found.0.high
    (λ j below. false_from_ne_true _ (found.0.before j (omega arith) below)) found.1)

-- what has no LF is one part
pub returns-in-None-clause-parts : goal.returns-in-None-clause-parts
returns-in-None-clause-parts c =
    parts_whole c.args.sent.now c.requires (λ j below. false_from_ne_true _ (c.in-None.ensures j (omega arith) below))
