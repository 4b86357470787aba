use Rattle.snapshots.proofs.Feeding.{taken_off}
use Rattle.snapshots.proofs.unread.Unread.take_off.Goals as goal

-- the reader of frames has what it had, behind the frame that it gave
pub invariant_of-self-2 : goal.invariant_of-self-2
invariant_of-self-2 c =
    taken_off c.self.inside.frames c.self.inside.bytes.items c.advance-2.new.self.items c.self.inside.fed
    c.self.inside.given c.args.n c.self.invariant c.if-n-self.false c.advance-2.ensures.items
