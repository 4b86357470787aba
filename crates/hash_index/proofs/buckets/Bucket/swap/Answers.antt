use Rattle.std.proofs.Common.{ap, sym, ◌∙◌, rules, Some}
use Rattle.hash_index.specs.Entries.{value_in, with_value}
use Rattle.hash_index.proofs.EntryLaws.{value_found, with_value_is}
use Rattle.hash_index.proofs.buckets.Bucket.swap.Goals as goal

pub returns-clause-old : goal.returns-clause-old
returns-clause-old g c =
    ap (λ es. value_in es c.args.i) (sym c.self.view_is)
    ∙ value_found c.self.inside.slots.items c.args.i c.index_mut.result.now (search rules) c.index_mut.ensures.value
    ∙ ap Some (sym c.replace.ensures.value)

pub returns-clause-new : goal.returns-clause-new
returns-clause-new g c =
    with_value_is c.self.inside.slots.items c.args.i c.index_mut.result.now c.replace.new.dest
    c.index_mut.ensures.value
    ∙ ap (with_value c.self.inside.slots.items c.args.i) c.replace.ensures.after
    ∙ ap (λ es. with_value es c.args.i c.args.value) c.self.view_is
