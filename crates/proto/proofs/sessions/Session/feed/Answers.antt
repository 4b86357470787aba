use Rattle.proto.proofs.KnownLaws.{known_more}
use Rattle.proto.proofs.sessions.Session.feed.Goals as goal

-- what was found out about the front stays so with the piece
pub invariant_of-self-2 : goal.invariant_of-self-2
invariant_of-self-2 c =
    rw c.in_ok-extend_from_slice.ensures.ok
    (known_more c.self.inside.pending c.self.inside.unread.items c.kept.result.now c.self.invariant)
