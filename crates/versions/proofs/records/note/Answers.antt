use Rattle.std.proofs.Common.{sym, ap, ◌∙◌, None, [], ◌∷◌}
use Rattle.std.specs.Option.{is_some}
use Rattle.std.proofs.lemmas.Result.{on_err_weaker}
use Rattle.versions.specs.Records.{item_in, numbers_in, record_at}
use Rattle.versions.proofs.Bases.{items_stay, numbers_stay}
use Rattle.versions.proofs.records.note.Goals as goal

-- a number that is added to a record leaves each key's item as it is
pub returns-in-Some-clause-items : goal.returns-in-Some-clause-items
returns-in-Some-clause-items c =
    let value = c.in-Some.ensures.value in
    items_stay _ _ _ _ (c.note.ensures.item ∙ ap item_in value) ((c.get_mut.follows.holds _).3 (sym (ap is_some value))).0

-- a number that is refused leaves each key's numbers as they are
pub returns-in-Some-clause-err : goal.returns-in-Some-clause-err
returns-in-Some-clause-err c =
    let value = c.in-Some.ensures.value in
    on_err_weaker c.note.result
    (λ e. numbers_stay _ _ _ _ (e ∙ ap numbers_in value) ((c.get_mut.follows.holds _).3 (sym (ap is_some value))).0)
    c.note.ensures.err

-- a new record has no item, so each key's item stays
pub returns-in_ok-insert-in-None-clause-items : goal.returns-in_ok-insert-in-None-clause-items
returns-in_ok-insert-in-None-clause-items c =
    items_stay c.args.records.now.entries _ c.args.key.now c.of_number.result
    (ap (λ r. r.item) c.of_number.ensures ∙ ap item_in (c.in-None.ensures.value ∙ ap (record_at c.args.records.now.entries) c.tree_key.ensures))
    (λ q. rw (← c.in_ok-to_tree_key-in-None.ensures, ← c.get_mut.follows.holds-at-none)
    (c.in_ok-insert-in-None.ensures.updates.0 q))
