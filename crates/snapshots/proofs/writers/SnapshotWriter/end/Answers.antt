use Rattle.std.proofs.Common.{◌≡◌, ◌∙◌, ℕ, List, ◌++◌, ap, append_assoc}
use Rattle.std.specs.Int.{w32, to_be_bytes}
use Rattle.snapshots.specs.Sums.{sum_of}
use Rattle.snapshots.specs.Snapshots.{counts}
use Rattle.snapshots.specs.Progress.{Progress}
use Rattle.snapshots.proofs.writers.SnapshotWriter.end.Goals as goal

-- the sum is of all bytes before it
pub returns-clause-sum : goal.returns-clause-sum
returns-clause-sum c =
    c.sum_with-sum.ensures
    ∙ ap (λ (t : List ℕ). sum_of (c.self.inside.progress.bytes ++ t))
    (c.counts-counts.ensures ∙ ap (λ (n : ℕ). counts c.args.count n) c.rows.ensures)
    ∙ ap (λ (p : Progress). sum_of (p.bytes ++ counts c.args.count p.rows)) c.self.view_is

-- the end is written behind the buffer's bytes
pub returns-clause-written : goal.returns-clause-written
returns-clause-written c =
    let said =
    c.counts-counts.ensures
    ∙ ap (λ (n : ℕ). counts c.args.count n) c.rows.ensures
    ∙ ap (λ (p : Progress). counts c.args.count p.rows) c.self.view_is in
    let sum =
    c.sum_with-sum.ensures
    ∙ ap (λ (t : List ℕ). sum_of (c.self.inside.progress.bytes ++ t)) said
    ∙ ap (λ (p : Progress). sum_of (p.bytes ++ counts c.args.count c.args.self.now.rows)) c.self.view_is in
    c.extend_reserved-2.ensures.items
    ∙ ap (λ (t : List ℕ). t ++ c.to_be_bytes.result)
    (c.extend_reserved.ensures.items ∙ ap (λ (t : List ℕ). t ++ c.counts-counts.result) c.reserve.ensures.items)
    ∙ append_assoc c.args.out.now.items c.counts-counts.result c.to_be_bytes.result
    ∙ ap (λ (t : List ℕ). c.args.out.now.items ++ (t ++ c.to_be_bytes.result)) said
    ∙ ap (λ (t : List ℕ). c.args.out.now.items ++ (counts c.args.count c.args.self.now.rows ++ t))
    (c.to_be_bytes.ensures ∙ ap (λ (n : ℕ). to_be_bytes w32 n) sum)
