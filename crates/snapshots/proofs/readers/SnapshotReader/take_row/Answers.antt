use Rattle.std.proofs.Common.{◌≡◌, ◌<◌, ◌≤◌, ◌∙◌, ℕ, List, take, drop, ap, sym, refl, subst, arith}
use Rattle.snapshots.specs.declared.faults.SnapshotFault.{SnapshotFault}
use Rattle.snapshots.specs.Progress.{Progress, with_number}
use Rattle.snapshots.specs.Readings.{IsFault, Reading, TakesRow}
use Rattle.snapshots.specs.Rows.{Row}
use Rattle.snapshots.proofs.Taking.{no_flaw, not_rising, takes_row}
use Rattle.snapshots.proofs.readers.SnapshotReader.take_row.Goals as goal

-- a row whose number isn't above is told
pub returns-then-number-last-clause-fault : goal.returns-then-number-last-clause-fault
returns-then-number-last-clause-fault c =
    let number = c.unique-number.ensures in
    let last = c.last.ensures ∙ ap (λ (r : Reading). r.progress.last) c.self.view_is in
    let le : c.in-Some.item.now.unique ≤ c.args.self.now.progress.last =
    omega (arith, number, last, c.if-number-last.true) in
    subst (λ (fault : SnapshotFault). IsFault fault c.args.self.now) (sym c.flawed-then-number-last.ensures) (
      not_rising c.args.self.now c.args.frame.now (c.in-Some.key.now, c.in-Some.item.now) c.requires.begun
          c.requires.first c.in-Some.ensures.row le,
      refl,
    )

-- nothing is wrong with a row that is read
pub returns-clause-flawless : goal.returns-clause-flawless
returns-clause-flawless c =
    let number = c.unique-number.ensures in
    let last = c.last.ensures ∙ ap (λ (r : Reading). r.progress.last) c.self.view_is in
    let less : c.args.self.now.progress.last < c.in-Some.item.now.unique =
    omega (arith, number, last, c.if-number-last.false) in
    λ flaw has.
    no_flaw flaw c.args.self.now c.args.frame.now (c.in-Some.key.now, c.in-Some.item.now) c.requires.begun
    c.requires.first c.in-Some.ensures.row less has

-- the row is read, and nothing else
pub returns-clause-row : goal.returns-clause-row
returns-clause-row c =
    let number = c.unique-number.ensures in
    let last = c.last.ensures ∙ ap (λ (r : Reading). r.progress.last) c.self.view_is in
    let less : c.args.self.now.progress.last < c.in-Some.item.now.unique =
    omega (arith, number, last, c.if-number-last.false) in
    let n = c.size-length.result in
    let unread : c.self.inside.unread ≡ c.args.self.now.unread = ap (λ (r : Reading). r.unread) c.self.view_is in
    let progress : c.self.inside.progress ≡ c.args.self.now.progress =
    ap (λ (r : Reading). r.progress) c.self.view_is in
    let passed =
    c.add.ensures
    ∙ ap (λ (p : Progress). with_number p c.unique-number.result (take n c.bytes.result.now)) progress
    ∙ ap (λ (k : ℕ). with_number c.args.self.now.progress k (take n c.bytes.result.now)) c.unique-number.ensures
    ∙ ap (λ (t : List ℕ). with_number c.args.self.now.progress c.in-Some.item.now.unique (take n t))
    (c.bytes.ensures.bytes ∙ unread) in
    subst
    (λ (x : Row). TakesRow x c.args.self.now (record { progress = c.add.new.self; unread = c.take_off.new.self }))
    (sym c.in_ok-row.ensures)
    (takes_row c.args.self.now (record { progress = c.add.new.self; unread = c.take_off.new.self }) c.args.frame.now
    (c.in-Some.key.now, c.in-Some.item.now) n c.requires.begun c.requires.first c.in-Some.ensures.row less
    c.size-length.ensures (c.take_off.ensures ∙ ap (λ (t : List ℕ). drop n t) unread) passed)
