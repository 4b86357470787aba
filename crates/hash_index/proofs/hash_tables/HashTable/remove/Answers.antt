use Rattle.hash_index.proofs.SplitLaws.{slot_there, held, removed-buckets, removed-values, joined_apart}
use Rattle.hash_index.proofs.hash_tables.HashTable.remove.Goals as goal

pub remove-old-requires : goal.remove-old-requires
remove-old-requires g c =
    slot_there c.self.inside.half c.args.self.now c.self.inside.rows c.self.view_is c.self.invariant c.args.bucket
    c.args.slot
    c.requires c.swap-slots.result c.swap-slots.ensures.old

pub invariant_of-self : goal.invariant_of-self
invariant_of-self g c =
    removed-buckets c.self.inside.half c.args.self.now c.self.inside.rows c.self.view_is c.self.invariant
    c.args.bucket
    c.args.slot c.requires c.swap-slots.result c.swap-slots.ensures.old c.swap-slots.new.self c.swap.new.self
    c.new.result
    c.remove-old.new.self c.swap-slots.ensures.new c.swap.ensures.new c.remove-old.ensures.entries

pub returns-clause-updates : goal.returns-clause-updates
returns-clause-updates g c =
    removed-values c.self.inside.half c.args.self.now c.self.inside.rows c.self.view_is c.self.invariant c.args.bucket
    c.args.slot c.requires c.swap-slots.result c.swap-slots.ensures.old c.swap-slots.new.self c.swap.new.self
    c.new.result
    c.remove-old.new.self c.swap-slots.ensures.new c.swap.ensures.new c.remove-old.ensures.entries

pub returns-clause-apart : goal.returns-clause-apart
returns-clause-apart g c = joined_apart c.self.inside.half c.swap.new.self (invariant_of-self g c)

pub returns-clause-old : goal.returns-clause-old
returns-clause-old g c =
    held c.self.inside.half c.args.self.now c.self.inside.rows c.self.view_is c.self.invariant c.args.bucket
    c.args.slot
    c.requires c.swap-slots.result c.swap-slots.ensures.old c.remove-old.result c.remove-old.ensures.value
