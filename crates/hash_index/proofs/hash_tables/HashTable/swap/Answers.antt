use Rattle.hash_index.proofs.SplitLaws.{slot_there, held, swapped-buckets, swapped-values, swapped-keys, joined_apart}
use Rattle.hash_index.proofs.hash_tables.HashTable.swap.Goals as goal

pub swap-old-requires : goal.swap-old-requires
swap-old-requires g c =
    slot_there c.self.inside.half c.args.self.now c.self.inside.rows c.self.view_is c.self.invariant c.args.bucket
    c.args.slot
    c.requires c.swap-slots.result c.swap-slots.ensures.old

pub invariant_of-self : goal.invariant_of-self
invariant_of-self g c =
    swapped-buckets c.self.inside.half c.args.self.now c.self.inside.rows c.self.view_is c.self.invariant
    c.args.bucket
    c.args.slot c.requires c.swap-slots.result c.swap-slots.ensures.old c.swap-slots.new.self c.swap.new.self
    c.new.result
    c.swap-old.new.self c.swap-slots.ensures.new c.swap.ensures.new c.args.value c.swap-old.ensures.new

pub returns-clause-updates : goal.returns-clause-updates
returns-clause-updates g c =
    swapped-values c.self.inside.half c.args.self.now c.self.inside.rows c.self.view_is c.self.invariant c.args.bucket
    c.args.slot c.requires c.swap-slots.result c.swap-slots.ensures.old c.swap-slots.new.self c.swap.new.self
    c.new.result
    c.swap-old.new.self c.swap-slots.ensures.new c.swap.ensures.new c.args.value c.swap-old.ensures.new

pub returns-clause-keys : goal.returns-clause-keys
returns-clause-keys g c =
    swapped-keys c.self.inside.half c.args.self.now c.self.inside.rows c.self.view_is c.self.invariant c.args.bucket
    c.args.slot c.requires c.swap-slots.result c.swap-slots.ensures.old c.swap-slots.new.self c.swap.new.self
    c.new.result
    c.swap-old.new.self c.swap-slots.ensures.new c.swap.ensures.new c.args.value c.swap-old.ensures.new

pub returns-clause-apart : goal.returns-clause-apart
returns-clause-apart g c = joined_apart c.self.inside.half c.swap.new.self (invariant_of-self g c)

pub returns-clause-old : goal.returns-clause-old
returns-clause-old g c =
    held c.self.inside.half c.args.self.now c.self.inside.rows c.self.view_is c.self.invariant c.args.bucket
    c.args.slot
    c.requires c.swap-slots.result c.swap-slots.ensures.old c.swap-old.result c.swap-old.ensures.old
