use Rattle.std.proofs.Common.{rules, subst, ap, ℕ, slice_index_or, ◌∙◌, ◌-◌, ◌≤◌, []}
use Rattle.node.specs.declared.faces.Tombstone.{Tombstone}
use Rattle.faces.proofs.Waiting.{rising_more}
use Rattle.faces.proofs.tombstones.note.Goals.{in-Some+else-last-number, in_default}
use Rattle.faces.proofs.tombstones.note.Goals as goal

pub returns-clause-rising : goal.returns-clause-rising
returns-clause-rising c = elim c.match-back.branch [
  | in-Some+else-last-number w ↦ rw (c.in_ok-push_back.ensures.items)
      (rising_more c.args.tombstones.now.items _ w.in-Some.last.now c.requires.rising
      (λ some. subst (λ (b : Tombstone). b.number ≤ c.args.number)
      (w.in-Some.ensures.lookup
      ∙ ap (λ (n : ℕ). slice_index_or c.args.tombstones.now.items (n - 1) w.in-Some.last.now)
      c.args.tombstones.now.ok.0) w.if-last-number.false))
  | in_default w ↦ rw (c.in_ok-push_back.ensures.items)
      (rising_more c.args.tombstones.now.items _ (record { number = 0; key = [] }) c.requires.rising
      (λ some. absurd (search rules)))
]
