use Rattle.std.proofs.Common.{ap, sym, ◌∙◌, rules, Some}
use Rattle.std.specs.Option.{option_map}
use Rattle.std.proofs.lemmas.Option.{slice_get_past, slice_get_read}
use Rattle.node.specs.declared.servers.OpenUpdate.{OpenUpdate}
use Rattle.node.proofs.servers.Replica.open_call.Goals as goal

-- the copy of the call at this place, with its id, is the own open call there
pub returns-in_ok-clone-in-Some : goal.returns-in_ok-clone-in-Some
returns-in_ok-clone-in-Some c =
    let pend = c.self.inside.pend in
    let at = slice_get_read pend.items pend.len c.args.i c.in-Some.update.now pend.ok.0
    (c.in-Some.ensures.variant.0 search rules) c.in-Some.ensures.lookup in
    ap (λ x. Some (c.in-Some.update.now.id, x)) (search rules) ∙ ap (option_map (λ (u : OpenUpdate). (u.id, u.call)))
    (sym at) ∙ search rules

-- past the last own open call there is none
pub returns-in-None : goal.returns-in-None
returns-in-None c =
    let pend = c.self.inside.pend in
    ap (option_map (λ (u : OpenUpdate). (u.id, u.call)))
    (sym (slice_get_past pend.items c.args.i c.in-None.ensures.item.3)) ∙ search rules
