use Rattle.std.proofs.Common.{◌≡◌, ◌++◌, ◌+◌, length, length-append, arith, subst}
use Rattle.hash_index.specs.Entries.{value_at}
use Rattle.hash_index.specs.Tables.{joined}
use Rattle.hash_index.specs.Indexes.{found_at}
use Rattle.hash_index.specs.Retained.{BecameOf}
use Rattle.hash_index.proofs.RetainLaws.{both-values, both-apart}
use Rattle.hash_index.proofs.indexes.Index.retain.Goals as goal

pub invariant_of-self : goal.invariant_of-self
invariant_of-self g c =
    let xs = joined c.self.inside.table in
    let ys = c.self.inside.more.entries in
    let zs = joined c.retain-gone.new.self in
    let ws = c.retain-rest.new.tree.entries in
    let old : length (xs ++ ys) ≡ length xs + length ys = length-append xs ys in
    let new : length (zs ++ ws) ≡ length zs + length ws = length-append zs ws in
    record {
      apart = both-apart g.R.Retain.outcome xs ys zs ws c.self.invariant.apart c.retain-gone.ensures.apart
          c.retain-gone.ensures.kept c.retain-rest.ensures.kept;
      counted = omega (
        arith,
        old,
        new,
        c.retain-gone.ensures.gone,
        c.retain-rest.ensures.gone,
        c.self.invariant.counted,
      );
    }

pub returns : goal.returns
returns g c q =
    let xs = joined c.self.inside.table in
    let ys = c.self.inside.more.entries in
    let zs = joined c.retain-gone.new.self in
    let ws = c.retain-rest.new.tree.entries in
    subst (λ x. BecameOf g.R.Retain.outcome (found_at x q) (value_at (zs ++ ws) q)) c.self.view_is
    (both-values g.R.Retain.outcome xs ys zs ws c.self.invariant.apart c.retain-gone.ensures.apart
    c.retain-gone.ensures.kept c.retain-rest.ensures.kept q)
