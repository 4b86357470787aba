use Rattle.std.proofs.Common.{sym, subst, ◌++◌}
use Rattle.wire.specs.Streams.{IsMissing}
use Rattle.wire.proofs.FrontLaws.{missing_fed}
use Rattle.wire.proofs.streams.Frames.feed.Goals as goal

-- with a piece more, as many bytes less are missing
pub invariant_of-self-2 : goal.invariant_of-self-2
invariant_of-self-2 c =
    subst (λ bytes. IsMissing c.saturating_sub-self-inside.result bytes) (sym c.in_ok-extend_from_slice.ensures.ok)
    (subst (λ k. IsMissing k (c.self.inside.unread.items ++ c.args.piece.now))
    (sym c.saturating_sub-self-inside.ensures)
    (missing_fed c.self.inside.missing c.self.inside.unread.items c.args.piece.now c.self.invariant))
