use Rattle.std.proofs.Common.{ap, sym, ◌∙◌, subst}
use Rattle.hash_index.specs.Entries.{value_at}
use Rattle.hash_index.specs.Tables.{joined, AreBuckets}
use Rattle.hash_index.proofs.SplitLaws.{next_buckets, put_all_back, split-buckets, split-same, joined_apart}
use Rattle.hash_index.proofs.hash_tables.HashTable.split.Goals as goal

-- no bucket more
pub invariant_of-self : goal.invariant_of-self
invariant_of-self g c =
    subst (AreBuckets c.next_half-self-inside.result) (sym c.in_default.ensures.err)
    (next_buckets c.self.inside.half c.next_half-self-inside.result c.self.inside.rows c.len-count.result
    c.self.invariant
    c.len-count.ensures.len c.next_half-self-inside.ensures.is)

pub returns-in_default-clause-apart : goal.returns-in_default-clause-apart
returns-in_default-clause-apart g c = joined_apart c.next_half-self-inside.result c.push.new.self (invariant_of-self
    g c)

pub split-requires-clause-power : goal.split-requires-clause-power
split-requires-clause-power g c =
    (next_buckets c.self.inside.half c.next_half-self-inside.result c.self.inside.rows c.len-count.result
    c.self.invariant
    c.len-count.ensures.len c.next_half-self-inside.ensures.is).power

-- no room for what goes
pub invariant_of-self-in_default-split : goal.invariant_of-self-in_default-split
invariant_of-self-in_default-split g c =
    subst (AreBuckets c.next_half-self-inside.result)
    (sym (put_all_back c.next_half-self-inside.result c.args.self.now c.self.inside.rows c.self.view_is
    (next_buckets c.self.inside.half c.next_half-self-inside.result c.self.inside.rows c.len-count.result
    c.self.invariant
    c.len-count.ensures.len c.next_half-self-inside.ensures.is)
    c.len-count.result c.len-count.ensures.len c.next_half-self-inside.ensures.enough
    c.next_half-self-inside.ensures.few
    c.push.new.self c.swap-slots.new.self c.swap.new.self c.pop.new.self c.new.result c.new-2.result
    c.swap-slots.result
    c.split.new.self c.new.result c.in-Ok.ensures.ok c.swap-slots.ensures.old c.swap-slots.ensures.new
    c.swap.ensures.new
    c.in_default-split.ensures.err c.pop.ensures))
    (next_buckets c.self.inside.half c.next_half-self-inside.result c.self.inside.rows c.len-count.result
    c.self.invariant
    c.len-count.ensures.len c.next_half-self-inside.ensures.is)

pub returns-in_default-split-clause-same : goal.returns-in_default-split-clause-same
returns-in_default-split-clause-same g c q =
    ap (λ xs. value_at (joined xs) q)
    (put_all_back c.next_half-self-inside.result c.args.self.now c.self.inside.rows c.self.view_is
    (next_buckets c.self.inside.half c.next_half-self-inside.result c.self.inside.rows c.len-count.result
    c.self.invariant
    c.len-count.ensures.len c.next_half-self-inside.ensures.is)
    c.len-count.result c.len-count.ensures.len c.next_half-self-inside.ensures.enough
    c.next_half-self-inside.ensures.few
    c.push.new.self c.swap-slots.new.self c.swap.new.self c.pop.new.self c.new.result c.new-2.result
    c.swap-slots.result
    c.split.new.self c.new.result c.in-Ok.ensures.ok c.swap-slots.ensures.old c.swap-slots.ensures.new
    c.swap.ensures.new
    c.in_default-split.ensures.err c.pop.ensures ∙ c.self.view_is)

pub returns-in_default-split-clause-apart : goal.returns-in_default-split-clause-apart
returns-in_default-split-clause-apart g c =
    joined_apart c.next_half-self-inside.result c.pop.new.self (invariant_of-self-in_default-split g c)

-- the bucket is split
pub invariant_of-self-2 : goal.invariant_of-self-2
invariant_of-self-2 g c =
    split-buckets c.next_half-self-inside.result c.args.self.now c.self.inside.rows c.self.view_is
    (next_buckets c.self.inside.half c.next_half-self-inside.result c.self.inside.rows c.len-count.result
    c.self.invariant
    c.len-count.ensures.len c.next_half-self-inside.ensures.is)
    c.len-count.result c.len-count.ensures.len c.next_half-self-inside.ensures.enough
    c.next_half-self-inside.ensures.few
    c.push.new.self c.swap-slots.new.self c.swap-2.new.self c.swap-3.new.self c.new.result c.new-2.result
    c.swap-slots.result
    c.split.new.self c.in-Ok-split.fresh c.in-Ok.ensures.ok c.swap-slots.ensures.old c.swap-slots.ensures.new
    c.swap-2.ensures.new c.in-Ok-split.ensures.stay c.in-Ok-split.ensures.go c.swap-3.ensures.new

pub returns-clause-same : goal.returns-clause-same
returns-clause-same g c =
    split-same c.next_half-self-inside.result c.args.self.now c.self.inside.rows c.self.view_is
    (next_buckets c.self.inside.half c.next_half-self-inside.result c.self.inside.rows c.len-count.result
    c.self.invariant
    c.len-count.ensures.len c.next_half-self-inside.ensures.is)
    c.len-count.result c.len-count.ensures.len c.next_half-self-inside.ensures.enough
    c.next_half-self-inside.ensures.few
    c.push.new.self c.swap-slots.new.self c.swap-2.new.self c.swap-3.new.self c.new.result c.new-2.result
    c.swap-slots.result
    c.split.new.self c.in-Ok-split.fresh c.in-Ok.ensures.ok c.swap-slots.ensures.old c.swap-slots.ensures.new
    c.swap-2.ensures.new c.in-Ok-split.ensures.stay c.in-Ok-split.ensures.go c.swap-3.ensures.new

pub returns-clause-apart : goal.returns-clause-apart
returns-clause-apart g c = joined_apart c.next_half-self-inside.result c.swap-3.new.self (invariant_of-self-2 g c)
