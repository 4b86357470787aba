use Rattle.std.proofs.Common.{◌≡◌, ap, ◌∙◌}
use Rattle.hash_index.specs.Entries.{value_at}
use Rattle.hash_index.specs.Tables.{joined, HasNow}
use Rattle.std.specs.Prelude.{OnOk, OnErr}
use Rattle.std.proofs.Common.{subst, Some}
use Rattle.hash_index.proofs.SplitLaws.{added-buckets, added-values, added-kept, joined_apart}
use Rattle.hash_index.proofs.hash_tables.HashTable.add.Goals as goal

pub invariant_of-self : goal.invariant_of-self
invariant_of-self g c =
    added-buckets c.self.inside.half c.begin.new.self c.self.inside.rows c.self.view_is c.self.invariant c.len.result
    c.place_of-bucket.result c.args.key c.len.ensures.len c.place_of-bucket.ensures c.in-Ok.ensures.some
    c.swap-slots.result c.swap-slots.ensures.old c.args.value
    (ap (λ es. value_at es c.args.key) c.in-Ok.ensures.same ∙ c.requires)
    c.swap-slots.new.self c.swap.new.self c.new.result c.push-pushed.new.self c.swap-slots.ensures.new
    c.swap.ensures.new
    c.push-pushed.result c.push-pushed.ensures.ok c.push-pushed.ensures.err

pub returns-clause-ok : goal.returns-clause-ok
returns-clause-ok g c =
    subst (λ es. OnOk c.push-pushed.result (HasNow c.args.key (Some c.args.value) es (joined c.swap.new.self)))
    c.in-Ok.ensures.same
    (added-values c.self.inside.half c.begin.new.self c.self.inside.rows c.self.view_is c.self.invariant c.len.result
    c.place_of-bucket.result c.args.key c.len.ensures.len c.place_of-bucket.ensures c.in-Ok.ensures.some
    c.swap-slots.result c.swap-slots.ensures.old c.args.value
    (ap (λ es. value_at es c.args.key) c.in-Ok.ensures.same ∙ c.requires)
    c.swap-slots.new.self c.swap.new.self c.new.result c.push-pushed.new.self c.swap-slots.ensures.new
    c.swap.ensures.new
    c.push-pushed.result c.push-pushed.ensures.ok)

pub returns-clause-err : goal.returns-clause-err
returns-clause-err g c =
    subst (λ es. OnErr c.push-pushed.result (joined c.swap.new.self ≡ es)) c.in-Ok.ensures.same
    (added-kept c.self.inside.half c.begin.new.self c.self.inside.rows c.self.view_is c.self.invariant c.len.result
    c.place_of-bucket.result c.args.key c.len.ensures.len c.place_of-bucket.ensures c.in-Ok.ensures.some
    c.swap-slots.result c.swap-slots.ensures.old c.args.value
    (ap (λ es. value_at es c.args.key) c.in-Ok.ensures.same ∙ c.requires)
    c.swap-slots.new.self c.swap.new.self c.new.result c.push-pushed.new.self c.swap-slots.ensures.new
    c.swap.ensures.new
    c.push-pushed.result c.push-pushed.ensures.err)

pub returns-clause-apart : goal.returns-clause-apart
returns-clause-apart g c = joined_apart c.self.inside.half c.swap.new.self (invariant_of-self g c)
