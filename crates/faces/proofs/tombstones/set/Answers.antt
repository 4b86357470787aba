use Rattle.node.specs.Faces.{IsRising}
use Rattle.faces.proofs.Waiting.{queued_set, queued_note, queued_more, queued_after}
use Rattle.node.specs.declared.faces.Tombstone.{Tombstone}
use Rattle.std.proofs.Common.{ℕ, List, [], ◌∷◌, ◌++◌, rules, ap, ◌∙◌, subst}
use Rattle.faces.proofs.tombstones.set.Goals.{then-not-has_item+in_ok-note, else-not-has_item}
use Rattle.faces.proofs.tombstones.set.Goals as goal

pub returns-clause-queued : goal.returns-clause-queued
returns-clause-queued c =
    let m = c.args.versions.now in
    let k = c.args.key.now in
    let v = c.args.version.now in
    elim c.if-not-has_item.branch [
      | then-not-has_item+in_ok-note w ↦
          let waiting : ℕ → List Tombstone =
          λ n. c.args.tombstones.now.items ++ (record { number = n; key = k }) ∷ [] in
          let noted = w.in_ok-note.ensures.ok ∙ ap waiting w.number.ensures in
          let rising = subst (IsRising 0) noted w.in_ok-note.ensures.rising in
          rw (w.tombstones-is, noted)
          (queued_after c.set.result m _ k v _ c.set.ensures.ok c.set.ensures.err
          (queued_note m _ k v c.requires.queued rising) (queued_more m _ _ c.requires.queued rising))
      | else-not-has_item w ↦ rw w.tombstones-is (queued_after c.set.result m _ k v _ c.set.ensures.ok c.set.ensures.err
          (queued_set m _ k v c.requires.queued
          (λ none. absurd (search rules))) c.requires.queued)
    ]
