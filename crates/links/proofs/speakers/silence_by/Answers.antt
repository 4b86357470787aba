-- The notice that was brought names the server that the order named.
use Rattle.std.proofs.Common.{◌≡◌, ◌∙◌, ap, sym, inl, [], ◌∷◌, ◌++◌}
use Rattle.links.proofs.Noting.{noted_is_named}
use Rattle.links.proofs.speakers.silence_by.Goals as goal

pub returns-in_ok-bring_notice-in-Notes-clause-told : goal.returns-in_ok-bring_notice-in-Notes-clause-told
returns-in_ok-bring_notice-in-Notes-clause-told g c =
    let same : c.args.silent.id ≡ c.in-Notes.named =
    noted_is_named c.args.silent.epoch c.args.silent.id c.in-Notes.named c.in_ok-heed.field-0.answer
    c.in_ok-heed.ensures (sym c.answer.ensures ∙ c.in-Notes.is) in
    inl (c.in_ok-bring_notice-in-Notes.ensures.told ∙ ap (λ j. c.args.told.now ++ j ∷ []) (sym same))
