use Rattle.std.proofs.Common.{sym}
use Rattle.versions.proofs.Holding.{newest-held, newest-absent, newest-within}
use Rattle.versions.proofs.stores.Store.newest.Goals as goal

-- the last number of the key is that of an entry above the floor
pub item_from-requires : goal.item_from-requires
item_from-requires c =
    rw c.last-set.ensures
    (newest-within _ _ _ _ _ _ c.self.invariant c.args.key.now c.in_ok-record.record.now
    c.in_ok-record.ensures.value)

-- the item that the last numbers give is the key's newest
pub returns : goal.returns
returns c = rw (c.item_from.ensures, c.item.ensures, c.last-set.ensures, c.last.ensures, ← c.self.view_is)
    (newest-held _ _ _ _ _ _ c.self.invariant c.args.key.now c.in_ok-record.record.now c.in_ok-record.ensures.value)

-- a key without record has no item
pub returns-in_err-record : goal.returns-in_err-record
returns-in_err-record c =
    rw (c.from_residual.ensures, ← c.self.view_is)
    (sym (newest-absent _ _ _ _ _ _ c.self.invariant c.args.key.now (sym c.in_err-record.ensures.value)))
