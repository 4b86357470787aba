use Rattle.std.proofs.Common.{sym, ap, ◌∙◌}
use Rattle.versions.specs.Numbers.{is_above, last_of}
use Rattle.versions.specs.Records.{numbers_in}
use Rattle.versions.proofs.Holding.{dirty-held, newest-held, newest-absent, newest-within, is_neither, is_first}
use Rattle.versions.proofs.Holding.{is_second}
use Rattle.versions.proofs.stores.Store.clean_version.Goals as goal

-- if a clear is above the commit number, the key is dirty
pub returns-then-is_above-clause-clean : goal.returns-then-is_above-clause-clean
returns-then-is_above-clause-clean c =
    rw (← c.self.view_is, dirty-held _ _ _ _ _ _ c.self.invariant c.args.key.now)
    (is_second _ _ (ap (is_above c.self.inside.acked) (sym c.last-cleared.ensures) ∙ sym c.is_above.ensures
    ∙ c.if-is_above.true))

-- if no clear is above it, a key without record is clean
pub returns-in_default-clause-clean : goal.returns-in_default-clause-clean
returns-in_default-clause-clean c =
    rw (← c.self.view_is, dirty-held _ _ _ _ _ _ c.self.invariant c.args.key.now)
    (is_neither _ _ (ap (λ r. is_above c.self.inside.acked (last_of (numbers_in r))) (sym c.in_default.ensures.value))
    (ap (is_above c.self.inside.acked) (sym c.last-cleared.ensures) ∙ sym c.is_above.ensures
    ∙ c.if-is_above.false))

-- a key without record has no item
pub returns-in_default-clause-newest : goal.returns-in_default-clause-newest
returns-in_default-clause-newest c =
    rw (← c.self.view_is)
    (sym (newest-absent _ _ _ _ _ _ c.self.invariant c.args.key.now (sym c.in_default.ensures.value)))

-- if an entry above it puts or drops the key, the key is dirty
pub returns-then-is_above-2-clause-clean : goal.returns-then-is_above-2-clause-clean
returns-then-is_above-2-clause-clean c =
    rw (← c.self.view_is, dirty-held _ _ _ _ _ _ c.self.invariant c.args.key.now)
    (is_first _ _ (ap (λ r. is_above c.self.inside.acked (last_of (numbers_in r))) (sym c.in-Some.ensures.value)
    ∙ ap (is_above c.self.inside.acked) (sym c.last-newest.ensures) ∙ sym c.is_above-2.ensures
    ∙ c.if-is_above-2.true))

-- the last number of the key is that of an entry above the floor
pub item_from-requires : goal.item_from-requires
item_from-requires c =
    rw c.last-newest.ensures
    (newest-within _ _ _ _ _ _ c.self.invariant c.args.key.now c.in-Some.record.now c.in-Some.ensures.value)

-- if neither is above it, the key is clean
pub returns-clause-clean : goal.returns-clause-clean
returns-clause-clean c =
    rw (← c.self.view_is, dirty-held _ _ _ _ _ _ c.self.invariant c.args.key.now)
    (is_neither _ _ (ap (λ r. is_above c.self.inside.acked (last_of (numbers_in r))) (sym c.in-Some.ensures.value)
    ∙ ap (is_above c.self.inside.acked) (sym c.last-newest.ensures) ∙ sym c.is_above-2.ensures
    ∙ c.if-is_above-2.false)
    (ap (is_above c.self.inside.acked) (sym c.last-cleared.ensures) ∙ sym c.is_above.ensures ∙ c.if-is_above.false))

-- the item that the last numbers give is the key's newest
pub returns-clause-newest : goal.returns-clause-newest
returns-clause-newest c =
    rw (c.item_from.ensures, c.item.ensures, c.last-newest.ensures, c.last-cleared.ensures, ← c.self.view_is)
    (newest-held _ _ _ _ _ _ c.self.invariant c.args.key.now c.in-Some.record.now c.in-Some.ensures.value)
