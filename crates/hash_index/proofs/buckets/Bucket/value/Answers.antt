use Rattle.std.proofs.Common.{ap, sym, ◌∙◌, rules}
use Rattle.hash_index.specs.Entries.{value_in}
use Rattle.hash_index.proofs.EntryLaws.{value_found}
use Rattle.hash_index.proofs.buckets.Bucket.value.Goals as goal

pub returns : goal.returns
returns g c =
    ap (λ es. value_in es c.args.i) (sym c.self.view_is)
    ∙ value_found c.self.inside.slots.items c.args.i c.index.result.now (search rules) (search rules)
