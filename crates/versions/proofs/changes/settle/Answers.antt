use Rattle.std.proofs.Common.{◌∙◌, None, Some}
use Rattle.versions.specs.Records.{base_item, numbers_in, record_at}
use Rattle.versions.proofs.Bases.{dropped_at, itself, set_at}
use Rattle.versions.proofs.changes.settle.Goals as goal

-- the key of an item that is put was noted, so it has a record
pub settle-requires : goal.settle-requires
settle-requires c =
    record {
      noted = c.requires.noted c.in-One-Put.key
          (rw (c.in-One-Put.is-0, c.in-One-Put.is-1) (itself c.in-One-Put.key));
    }

-- the key of an item that is dropped was noted, so it has a record
pub settle-requires-in-One-Drop : goal.settle-requires-in-One-Drop
settle-requires-in-One-Drop c =
    record {
      noted = c.requires.noted c.in-One-Drop.key
          (rw (c.in-One-Drop.is-0, c.in-One-Drop.is-1) (itself c.in-One-Drop.key));
    }

-- a put drops the first number of its key alone
pub returns-in-One-Put-clause-numbers : goal.returns-in-One-Put-clause-numbers
returns-in-One-Put-clause-numbers c =
    λ q. rw (c.in-One-Put.is-0, c.in-One-Put.is-1)
    (c.settle.ensures.numbers q ∙ dropped_at (λ x. numbers_in (record_at c.args.records.now.entries x))
    c.in-One-Put.key q)

-- a drop drops the first number of its key alone
pub returns-in-One-Drop-clause-numbers : goal.returns-in-One-Drop-clause-numbers
returns-in-One-Drop-clause-numbers c =
    λ q. rw (c.in-One-Drop.is-0, c.in-One-Drop.is-1)
    (c.settle-in-One-Drop.ensures.numbers q ∙ dropped_at (λ x. numbers_in (record_at c.args.records.now.entries x))
    c.in-One-Drop.key q)

-- a put changes the item of its key alone
pub returns-in-One-Put-clause-items : goal.returns-in-One-Put-clause-items
returns-in-One-Put-clause-items c =
    λ q. rw (c.in-One-Put.is-0, c.in-One-Put.is-1)
    (c.settle.ensures.items q ∙ set_at (Some c.in-One-Put.item) (base_item c.args.records.now.entries q)
    c.in-One-Put.key q)

-- a drop takes away the item of its key alone
pub returns-in-One-Drop-clause-items : goal.returns-in-One-Drop-clause-items
returns-in-One-Drop-clause-items c =
    λ q. rw (c.in-One-Drop.is-0, c.in-One-Drop.is-1)
    (c.settle-in-One-Drop.ensures.items q ∙ set_at None (base_item c.args.records.now.entries q)
    c.in-One-Drop.key q)
