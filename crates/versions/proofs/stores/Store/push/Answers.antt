use Rattle.std.proofs.Common.{◌≡◌, ◌+◌, length, refl}
use Rattle.std.proofs.lemmas.Result.{err_from_is_err_and}
use Rattle.versions.proofs.Bases.{same_base}
use Rattle.versions.proofs.Holding.{held-same, held-push}
use Rattle.versions.proofs.stores.Store.push.Goals as goal

-- if the entry is refused, records and clears name just the entries that were there
pub invariant_of-self-in_err-note : goal.invariant_of-self-in_err-note
invariant_of-self-in_err-note c = held-same _ _ _ _ _ _ _ _ _ c.self.invariant c.in_err-note.ensures.numbers_stay
    c.in_err-note.ensures.clears_stay c.reserve.ensures.items

-- an entry that is refused leaves the store as it was
pub returns-in_err-note-clause-err : goal.returns-in_err-note-clause-err
returns-in_err-note-clause-err c =
    let p = err_from_is_err_and c.from_residual-in_err-note.result c.from_residual-in_err-note.ensures.1 in
    rw (p.1, same_base _ _ c.note.ensures.items, c.reserve.ensures.items) c.self.view_is

-- with the entry added, records and clears name it too
pub invariant_of-self-2 : goal.invariant_of-self-2
invariant_of-self-2 c =
    let next : c.args.entry.number ≡ c.self.inside.floor + length c.self.inside.entries.items + 1 =
    rw (← c.self.view_is) at c.requires.next in
    held-push _ _ _ _ _ _ _ _ _ _ c.args.entry c.self.invariant c.number-number.ensures.entry next
    c.number-number.ensures.number c.in_ok-note.ensures.numbers c.in_ok-note.ensures.clears
    (rw (c.push_back_reserved.ensures.items, c.reserve.ensures.items) refl)

-- the store has the entry at its end
pub returns-clause-ok : goal.returns-clause-ok
returns-clause-ok c =
    rw (
      same_base _ _ c.note.ensures.items,
      c.push_back_reserved.ensures.items,
      c.reserve.ensures.items,
      ← c.self.view_is,
    ) refl
