use Rattle.std.proofs.Common.{subst}
use Rattle.hash_index.specs.Entries.{value_at}
use Rattle.hash_index.specs.Tables.{joined}
use Rattle.hash_index.specs.Retained.{BecameOf}
use Rattle.hash_index.proofs.SplitLaws.{joined_apart}
use Rattle.hash_index.proofs.RetainLaws.{retained-buckets, retained-values}
use Rattle.hash_index.proofs.hash_tables.HashTable.retain.Goals as goal

pub invariant_of-self : goal.invariant_of-self
invariant_of-self g c =
    retained-buckets g.R.Retain.outcome c.self.inside.half c.self.inside.rows c.retain_rows.new.rows c.self.invariant
    c.retain_rows.ensures.count c.retain_rows.ensures.each

pub returns-clause-kept : goal.returns-clause-kept
returns-clause-kept g c q =
    subst (λ xs. BecameOf g.R.Retain.outcome (value_at (joined xs) q) (value_at (joined c.retain_rows.new.rows) q))
    c.self.view_is
    (retained-values g.R.Retain.outcome c.self.inside.half c.self.inside.rows c.retain_rows.new.rows c.self.invariant
    c.retain_rows.ensures.count c.retain_rows.ensures.each q)

pub returns-clause-apart : goal.returns-clause-apart
returns-clause-apart g c = joined_apart c.self.inside.half c.retain_rows.new.rows (invariant_of-self g c)
