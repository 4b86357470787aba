use Rattle.std.proofs.Common.{◌≡◌, ◌∙◌, ◌++◌, ap, sym, map}
use Rattle.node.specs.Servers.{ServerState}
use Rattle.node.specs.Faces.{base_step, face_steps}
use Rattle.versions.specs.Stores.{StoreState, entries_after}
use Rattle.node.proofs.Openings.{whole-face_by}
use Rattle.node.proofs.servers.Replica.whole_face.Goals as goal

-- the change that is given makes of an empty face the server's face
pub returns : goal.returns
returns c =
    let s = c.args.self.now in
    let pairs = c.in_ok-base.field-0.items in
    let above = c.floor.result in
    let same : c.self.inside.store ≡ s.store = ap (λ (t : ServerState). t.store) c.self.view_is in
    let based = c.in_ok-put_base.ensures ∙ ap (λ xs. xs ++ map base_step pairs) c.new-steps.ensures.items in
    whole-face_by s c.self.inside.store pairs c.put_steps_after.new.steps.items above c.acked-acked.result
    same c.in_ok-base.ensures c.floor.ensures.floor c.acked-acked.ensures.acked
    (c.in_ok-put_steps_after.ensures
    ∙ ap (λ xs. xs ++ face_steps (entries_after s.store above)) based
    ∙ ap (λ (t : StoreState). map base_step pairs ++ face_steps (entries_after t above)) (sym same))
