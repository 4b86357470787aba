use Rattle.std.proofs.Common.{◌≡◌, ◌≤◌, ◌∙◌, ℕ, List, ◌++◌, take, ap, sym, subst}
use Rattle.snapshots.specs.Sums.{sum_of}
use Rattle.snapshots.specs.Progress.{Progress, is_begun}
use Rattle.snapshots.specs.Readings.{Reading}
use Rattle.snapshots.proofs.Taking.{begun_at, ends_so}
use Rattle.snapshots.proofs.readers.SnapshotReader.end.Goals as goal

-- an end that says what it has to is the end
pub returns-clause-whole : goal.returns-clause-whole
returns-clause-whole c =
    let unread : c.bytes-bytes.result.now ≡ c.args.self.now.unread =
    c.bytes-bytes.ensures.bytes ∙ ap (λ (r : Reading). r.unread) c.self.view_is in
    let progress : c.self.inside.progress ≡ c.args.self.now.progress =
    ap (λ (r : Reading). r.progress) c.self.view_is in
    ends_so c.args.self.now c.end_in-count.result.0 c.end_in-count.result.1 c.end_in-count.result.2
    (sym (ap (λ (p : Progress). is_begun p.bytes) progress)
    ∙ begun_at c.self.inside.progress.bytes c.self.inside.unread c.self.inside.place c.self.invariant
    c.if-self-eq0.false)
    (sym unread ∙ c.end_in-count.ensures.says)
    (c.if-sum-sum_with.false
    ∙ c.sum_with.ensures
    ∙ ap (λ (p : Progress). sum_of (p.bytes ++ take 17 c.bytes-bytes.result.now)) progress
    ∙ ap (λ (t : List ℕ). sum_of (c.args.self.now.progress.bytes ++ take 17 t)) unread)
    (c.if-rows.false ∙ c.rows.ensures ∙ ap (λ (p : Progress). p.rows) progress)
    (subst (λ (n : ℕ). n ≤ c.end_in-count.result.0) (c.last.ensures ∙ ap (λ (p : Progress). p.last) progress)
    c.if-count-last.false)
    c.end_in-count.ensures.fits
