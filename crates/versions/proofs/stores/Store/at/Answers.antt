use Rattle.std.proofs.Common.{◌≤◌, ◌+◌, length, sym}
use Rattle.versions.proofs.Holding.{at-held, at-absent, at-within, numbers_held-rise, clears_held-rise}
use Rattle.versions.proofs.stores.Store.at.Goals as goal

-- the numbers of a key rise, as the search asks
pub last_up_to-set-requires : goal.last_up_to-set-requires
last_up_to-set-requires c =
    record {
      rising = rw (← c.in_ok-record.ensures.value)
          at (numbers_held-rise _ _ _ _ _ _ c.self.invariant c.args.key.now);
    }

-- the numbers of the clears rise, as the search asks
pub last_up_to-requires : goal.last_up_to-requires
last_up_to-requires c = record { rising = clears_held-rise _ _ _ _ _ _ c.self.invariant }

-- the number that is found is that of an entry above the floor
pub item_from-requires : goal.item_from-requires
item_from-requires c =
    let above : c.self.inside.floor ≤ c.args.n = rw (← c.self.view_is) at c.requires.above in
    let known : c.args.n ≤ c.self.inside.floor + length c.self.inside.entries.items =
    rw (← c.self.view_is) at c.requires.known in
    rw c.last_up_to-set.ensures
    (at-within _ _ _ _ _ _ _ c.self.invariant above known c.args.key.now c.in_ok-record.record.now
    c.in_ok-record.ensures.value)

-- the item that the two numbers give is the key's at n
pub returns : goal.returns
returns c =
    let above : c.self.inside.floor ≤ c.args.n = rw (← c.self.view_is) at c.requires.above in
    let known : c.args.n ≤ c.self.inside.floor + length c.self.inside.entries.items =
    rw (← c.self.view_is) at c.requires.known in
    rw (c.item_from.ensures, c.item.ensures, c.last_up_to-set.ensures, c.last_up_to.ensures, ← c.self.view_is)
    (at-held _ _ _ _ _ _ _ c.self.invariant above known c.args.key.now c.in_ok-record.record.now
    c.in_ok-record.ensures.value)

-- a key without record has no item at n
pub returns-in_err-record : goal.returns-in_err-record
returns-in_err-record c =
    let above : c.self.inside.floor ≤ c.args.n = rw (← c.self.view_is) at c.requires.above in
    let known : c.args.n ≤ c.self.inside.floor + length c.self.inside.entries.items =
    rw (← c.self.view_is) at c.requires.known in
    rw (c.from_residual.ensures, ← c.self.view_is)
    (sym (at-absent _ _ _ _ _ _ _ c.self.invariant above known c.args.key.now (sym c.in_err-record.ensures.value)))
