use Rattle.std.proofs.Common.{ap, sym, ◌∙◌, rules}
use Rattle.hash_index.specs.Entries.{value_in}
use Rattle.hash_index.proofs.EntryLaws.{value_found}
use Rattle.hash_index.proofs.buckets.Bucket.remove.Goals as goal

pub returns-clause-value : goal.returns-clause-value
returns-clause-value g c =
    ap (λ es. value_in es c.args.i) (sym c.self.view_is)
    ∙ value_found c.self.inside.slots.items c.args.i c.remove-key.result (search rules) c.remove-key.ensures.value
