use Rattle.std.proofs.Common.{List, [], ◌∷◌, ◌++◌, ap, ◌∙◌}
use Rattle.wire.specs.declared.frames.Frame.{Frame}
use Rattle.peers.proofs.Taking.{history_grows, history_stays_whole}
use Rattle.peers.proofs.taken_frames.TakenFrames.add.Goals as goal

pub invariant_of-self : goal.invariant_of-self
invariant_of-self c =
    history_stays_whole c.self.inside.tag.numbers _ c.args.frame.now c.self.invariant c.requires c.of-tag.ensures

pub returns : goal.returns
returns c =
    history_grows c.self.inside.tag.numbers _ c.args.frame.now c.self.invariant c.requires c.of-tag.ensures
    ∙ ap (λ (fs : List Frame). fs ++ c.args.frame.now ∷ []) c.self.view_is
