use Rattle.std.proofs.Common.{◌≡◌, sym, subst, Some, None}
use Rattle.std.proofs.lemmas.Result.{on_ok_weaker}
use Rattle.hash_index.specs.Entries.{value_at}
use Rattle.hash_index.specs.Tables.{joined, HasNow}
use Rattle.hash_index.proofs.IndexLaws.{none_left_of, none_right_of, has_left, has_right, left_either, right_either}
use Rattle.hash_index.proofs.indexes.add_entry.Goals as goal

pub add-requires : goal.add-requires
add-requires g c =
    subst (λ k. value_at c.args.more.now.entries k ≡ None) (sym c.in-Ok.ensures)
    (none_right_of (joined c.args.table.now) c.args.more.now.entries c.args.key.now c.requires.absent)

pub add-requires-2 : goal.add-requires-2
add-requires-2 g c =
    subst (λ k. value_at (joined c.args.table.now) k ≡ None) (sym c.in-Ok.ensures)
    (none_left_of (joined c.args.table.now) c.args.more.now.entries c.args.key.now c.requires.absent)

pub returns-then-is_full-clause-ok : goal.returns-then-is_full-clause-ok
returns-then-is_full-clause-ok g c =
    on_ok_weaker c.add.result
    (λ h. has_right (joined c.args.table.now) c.args.more.now.entries c.add.new.tree.entries c.args.key.now
    (Some c.args.value)
    (subst (λ k. HasNow k (Some c.args.value) c.args.more.now.entries c.add.new.tree.entries) c.in-Ok.ensures h)
    (none_left_of (joined c.args.table.now) c.args.more.now.entries c.args.key.now c.requires.absent))
    c.add.ensures.ok

pub returns-then-is_full-clause-apart : goal.returns-then-is_full-clause-apart
returns-then-is_full-clause-apart g c =
    right_either c.add.result (joined c.args.table.now) c.args.more.now.entries c.add.new.tree.entries
    c.in-Ok.tree_key
    (Some c.args.value) c.add.ensures.ok c.add.ensures.err c.add.ensures.apart c.requires.apart
    (subst (λ k. value_at (joined c.args.table.now) k ≡ None) (sym c.in-Ok.ensures)
    (none_left_of (joined c.args.table.now) c.args.more.now.entries c.args.key.now c.requires.absent))

pub returns-clause-ok : goal.returns-clause-ok
returns-clause-ok g c =
    on_ok_weaker c.add-2.result
    (λ h. has_left (joined c.args.table.now) (joined c.add-2.new.self) c.args.more.now.entries c.args.key.now
    (Some c.args.value)
    (subst (λ k. HasNow k (Some c.args.value) (joined c.args.table.now) (joined c.add-2.new.self)) c.in-Ok.ensures h)
    (none_right_of (joined c.args.table.now) c.args.more.now.entries c.args.key.now c.requires.absent))
    c.add-2.ensures.ok

pub returns-clause-apart : goal.returns-clause-apart
returns-clause-apart g c =
    left_either c.add-2.result (joined c.args.table.now) (joined c.add-2.new.self) c.args.more.now.entries
    c.in-Ok.tree_key (Some c.args.value) c.add-2.ensures.ok c.add-2.ensures.err c.add-2.ensures.apart c.requires.apart
    (subst (λ k. value_at c.args.more.now.entries k ≡ None) (sym c.in-Ok.ensures)
    (none_right_of (joined c.args.table.now) c.args.more.now.entries c.args.key.now c.requires.absent))
