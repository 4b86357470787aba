use Rattle.std.proofs.Common.{◌≡◌, ◌+◌, ◌++◌, cond, length, Some, None, ap, ◌∙◌, arith}
use Rattle.hash_index.specs.Entries.{value_at, AreApart}
use Rattle.hash_index.specs.Tables.{joined}
use Rattle.hash_index.specs.Indexes.{found_at}
use Rattle.hash_index.proofs.EntryLaws.{same, length-put}
use Rattle.hash_index.proofs.IndexLaws.{same_left, same_left_apart}
use Rattle.hash_index.proofs.indexes.Index.add.Goals as goal

pub invariant_of-self-2 : goal.invariant_of-self-2
invariant_of-self-2 g c =
    let none : value_at ((joined c.self.inside.table) ++ c.self.inside.more.entries) c.args.key.now ≡ None = ap (λ x.
    found_at x c.args.key.now) c.self.view_is ∙ c.requires in
    let apart : AreApart ((joined c.grow.new.self) ++ c.add_entry.new.more.entries) =
    same_left_apart (joined c.add_entry.new.table) (joined c.grow.new.self) c.add_entry.new.more.entries
    c.grow.ensures.apart c.in_ok-add_entry.ensures.apart c.grow.ensures.same in
    let more : length ((joined c.grow.new.self) ++ c.add_entry.new.more.entries) ≡ length ((joined
    c.self.inside.table) ++ c.self.inside.more.entries) + 1 =
    length-put ((joined c.self.inside.table) ++ c.self.inside.more.entries) ((joined c.grow.new.self) ++
    c.add_entry.new.more.entries) c.args.key.now c.args.value c.self.invariant.apart apart none
    (λ q. same_left (joined c.add_entry.new.table) (joined c.grow.new.self) c.add_entry.new.more.entries
    c.grow.ensures.same q ∙ c.in_ok-add_entry.ensures.ok q) in
    let counted = c.self.invariant.counted in
    record {
      apart = apart;
      counted = omega arith;
    }

pub returns-clause-ok : goal.returns-clause-ok
returns-clause-ok g c q =
    same_left (joined c.add_entry.new.table) (joined c.grow.new.self) c.add_entry.new.more.entries
    c.grow.ensures.same q ∙ c.in_ok-add_entry.ensures.ok q
    ∙ ap (λ x. cond (same c.args.key.now q) (Some c.args.value) (found_at x q)) c.self.view_is
