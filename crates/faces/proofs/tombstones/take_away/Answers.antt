use Rattle.std.proofs.Common.{◌∙◌, sym}
use Rattle.faces.proofs.Waiting.{first_taken, ends_above, ends_empty, none_by}
use Rattle.faces.proofs.tombstones.take_away.Goals as goal

pub returns-then-first-acked-clause-versions : goal.returns-then-first-acked-clause-versions
returns-then-first-acked-clause-versions c = ends_above c.args.acked _ _ _ c.in-Some.first.now c.in-Some.ensures.lookup
    c.if-first-acked.true c.loop-first.invariant.queued c.loop-first.invariant.between

pub returns-clause-versions : goal.returns-clause-versions
returns-clause-versions c =
    ends_empty c.args.acked _ _ _ (sym c.loop-first.tombstones.ok.0 ∙ none_by _ c.in_default.ensures.variant.1)
    c.loop-first.invariant.queued c.loop-first.invariant.between

pub loop-first-preserved : goal.loop-first-preserved
loop-first-preserved c =
    let kept = first_taken c.args.acked c.args.versions.now c.loop-first.versions _ _
    _ _ c.in-Some.first.now c.in-Some-pop_front.ensures.items c.in-Some.ensures.lookup c.if-first-acked.false
    c.take_away_at.ensures c.loop-first.invariant.queued c.loop-first.invariant.between in
    record { queued = kept.0; between = kept.1 }
