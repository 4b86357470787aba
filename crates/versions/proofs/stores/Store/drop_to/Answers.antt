use Rattle.std.proofs.Common.{◌≤◌}
use Rattle.versions.proofs.Holding.{held-drop}
use Rattle.versions.proofs.stores.Store.drop_to.Goals as goal

-- with the floor raised, records and clears name just the entries that are left
pub invariant_of-self : goal.invariant_of-self
invariant_of-self c =
    let above : c.self.inside.floor ≤ c.args.n = rw (← c.self.view_is) at c.requires.above in
    let below : c.args.n ≤ c.self.inside.acked = rw (← c.self.view_is) at c.requires.acked in
    rw c.give_back.ensures
    (held-drop _ _ _ _ _ _ _ _ _ _ c.self.invariant above below c.settle_first.ensures.index
    c.settle_first.ensures.entries)
