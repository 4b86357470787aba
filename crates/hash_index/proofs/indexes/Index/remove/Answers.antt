use Rattle.std.proofs.Common.{◌≡◌, ◌+◌, ◌++◌, cond, length, Some, None, ap, sym, ◌∙◌, subst, arith}
use Rattle.std.specs.Option.{IsSome, is_some}
use Rattle.std.proofs.lemmas.Map.Keys.{IsDistinct-from_sorted}
use Rattle.table.specs.Keys.{tree_key_cmp}
use Rattle.hash_index.specs.Entries.{value_at, AreApart}
use Rattle.hash_index.specs.Tables.{joined, HasNow}
use Rattle.hash_index.specs.Indexes.{found_at}
use Rattle.hash_index.proofs.EntryLaws.{same, value_at-left_none, apart_from_IsDistinct}
use Rattle.hash_index.proofs.IndexLaws.{other_of, found_left, found_left_as, has_left, has_left_apart, has_right}
use Rattle.hash_index.proofs.IndexLaws.{has_right_apart, length-gone, gone_already}
use Rattle.hash_index.proofs.indexes.Index.remove.Goals as goal

-- from its bucket
pub invariant_of-self : goal.invariant_of-self
invariant_of-self g c =
    let is : value_at (joined c.self.inside.table) c.args.key.now ≡ Some c.remove-value.result =
    c.remove-value.ensures.old c.args.key.now (c.in-Some.ensures.key ∙ ap Some c.tree_key.ensures) in
    let there : IsSome (value_at (joined c.self.inside.table) c.args.key.now) = ap is_some is in
    let lone : value_at c.self.inside.more.entries c.args.key.now ≡ None = other_of (joined c.self.inside.table)
    c.self.inside.more.entries c.self.invariant.apart c.args.key.now there in
    let gone : HasNow c.args.key.now None (joined c.self.inside.table) (joined c.remove-value.new.self) =
    c.remove-value.ensures.updates c.args.key.now (c.in-Some.ensures.key ∙ ap Some c.tree_key.ensures) in
    let apart : AreApart ((joined c.remove-value.new.self) ++ c.self.inside.more.entries) =
    has_left_apart (joined c.self.inside.table) (joined c.remove-value.new.self) c.self.inside.more.entries
    c.args.key.now None c.remove-value.ensures.apart c.self.invariant.apart gone lone in
    let fewer : length ((joined c.remove-value.new.self) ++ c.self.inside.more.entries) + 1 ≡ length ((joined
    c.self.inside.table) ++ c.self.inside.more.entries) =
    length-gone ((joined c.self.inside.table) ++ c.self.inside.more.entries) ((joined c.remove-value.new.self) ++
    c.self.inside.more.entries) c.args.key.now c.remove-value.result c.self.invariant.apart apart
    (ap is_some (found_left (joined c.self.inside.table) c.self.inside.more.entries c.args.key.now there) ∙ there)
    (has_left (joined c.self.inside.table) (joined c.remove-value.new.self) c.self.inside.more.entries c.args.key.now
    None gone lone) in
    let counted = c.self.invariant.counted in
    record {
      apart = apart;
      counted = omega arith;
    }

pub returns-in-Some-clause-value : goal.returns-in-Some-clause-value
returns-in-Some-clause-value g c =
    let is : value_at (joined c.self.inside.table) c.args.key.now ≡ Some c.remove-value.result =
    c.remove-value.ensures.old c.args.key.now (c.in-Some.ensures.key ∙ ap Some c.tree_key.ensures) in
    let there : IsSome (value_at (joined c.self.inside.table) c.args.key.now) = ap is_some is in
    let lone : value_at c.self.inside.more.entries c.args.key.now ≡ None = other_of (joined c.self.inside.table)
    c.self.inside.more.entries c.self.invariant.apart c.args.key.now there in
    let gone : HasNow c.args.key.now None (joined c.self.inside.table) (joined c.remove-value.new.self) =
    c.remove-value.ensures.updates c.args.key.now (c.in-Some.ensures.key ∙ ap Some c.tree_key.ensures) in
    sym (ap (λ x. found_at x c.args.key.now) (sym c.self.view_is) ∙ found_left_as (joined c.self.inside.table)
    c.self.inside.more.entries c.args.key.now c.remove-value.result is)

pub returns-in-Some-clause-updates : goal.returns-in-Some-clause-updates
returns-in-Some-clause-updates g c q =
    let is : value_at (joined c.self.inside.table) c.args.key.now ≡ Some c.remove-value.result =
    c.remove-value.ensures.old c.args.key.now (c.in-Some.ensures.key ∙ ap Some c.tree_key.ensures) in
    let there : IsSome (value_at (joined c.self.inside.table) c.args.key.now) = ap is_some is in
    let lone : value_at c.self.inside.more.entries c.args.key.now ≡ None = other_of (joined c.self.inside.table)
    c.self.inside.more.entries c.self.invariant.apart c.args.key.now there in
    let gone : HasNow c.args.key.now None (joined c.self.inside.table) (joined c.remove-value.new.self) =
    c.remove-value.ensures.updates c.args.key.now (c.in-Some.ensures.key ∙ ap Some c.tree_key.ensures) in
    has_left (joined c.self.inside.table) (joined c.remove-value.new.self) c.self.inside.more.entries c.args.key.now
    None gone lone q ∙ ap (λ x. cond (same c.args.key.now q) None (found_at x q)) c.self.view_is

-- from nowhere
pub returns-in_default-remove-clause-value : goal.returns-in_default-remove-clause-value
returns-in_default-remove-clause-value g c =
    let lone : value_at (joined c.self.inside.table) c.args.key.now ≡ None =
    sym (ap (value_at (joined c.self.inside.table)) c.tree_key.ensures) ∙ c.in_default.ensures.absent in
    sym (ap (λ x. found_at x c.args.key.now) (sym c.self.view_is) ∙ value_at-left_none (joined c.self.inside.table)
    c.self.inside.more.entries c.args.key.now lone
    ∙ sym (ap (value_at c.self.inside.more.entries) c.tree_key-2.ensures) ∙ sym c.remove.ensures.value ∙
    c.in_default-remove.is)

pub returns-in_default-remove-clause-updates : goal.returns-in_default-remove-clause-updates
returns-in_default-remove-clause-updates g c q =
    let none : found_at c.args.self.now c.args.key.now ≡ None = sym (returns-in_default-remove-clause-value g c) in
    ap (λ es. value_at ((joined c.self.inside.table) ++ es) q) c.in_default-remove.ensures.unchanged
    ∙ ap (λ x. found_at x q) c.self.view_is
    ∙ gone_already (λ k. found_at c.args.self.now k) c.args.key.now none q

-- from the tree
pub invariant_of-self-2 : goal.invariant_of-self-2
invariant_of-self-2 g c =
    let lone : value_at (joined c.self.inside.table) c.args.key.now ≡ None =
    sym (ap (value_at (joined c.self.inside.table)) c.tree_key.ensures) ∙ c.in_default.ensures.absent in
    let is : value_at c.self.inside.more.entries c.args.key.now ≡ Some c.in-Some-remove.value =
    sym (ap (value_at c.self.inside.more.entries) c.tree_key-2.ensures) ∙ sym c.remove.ensures.value ∙
    c.in-Some-remove.is in
    let gone : HasNow c.args.key.now None c.self.inside.more.entries c.remove.new.self.entries =
    subst (λ k. HasNow k None c.self.inside.more.entries c.remove.new.self.entries) c.tree_key-2.ensures
    c.remove.ensures.updates.0 in
    let apart : AreApart ((joined c.self.inside.table) ++ c.remove.new.self.entries) =
    has_right_apart (joined c.self.inside.table) c.self.inside.more.entries c.remove.new.self.entries c.args.key.now
    None
    (apart_from_IsDistinct c.remove.new.self.entries (IsDistinct-from_sorted tree_key_cmp _
    c.remove.ensures.ordered)) c.self.invariant.apart gone lone in
    let fewer : length ((joined c.self.inside.table) ++ c.remove.new.self.entries) + 1 ≡ length ((joined
    c.self.inside.table) ++ c.self.inside.more.entries) =
    length-gone ((joined c.self.inside.table) ++ c.self.inside.more.entries) ((joined c.self.inside.table) ++
    c.remove.new.self.entries) c.args.key.now c.in-Some-remove.value c.self.invariant.apart apart
    (ap is_some (value_at-left_none (joined c.self.inside.table) c.self.inside.more.entries c.args.key.now lone ∙ is))
    (has_right (joined c.self.inside.table) c.self.inside.more.entries c.remove.new.self.entries c.args.key.now None
    gone lone) in
    let counted = c.self.invariant.counted in
    record {
      apart = apart;
      counted = omega arith;
    }

pub returns-clause-value : goal.returns-clause-value
returns-clause-value g c =
    let lone : value_at (joined c.self.inside.table) c.args.key.now ≡ None =
    sym (ap (value_at (joined c.self.inside.table)) c.tree_key.ensures) ∙ c.in_default.ensures.absent in
    let is : value_at c.self.inside.more.entries c.args.key.now ≡ Some c.in-Some-remove.value =
    sym (ap (value_at c.self.inside.more.entries) c.tree_key-2.ensures) ∙ sym c.remove.ensures.value ∙
    c.in-Some-remove.is in
    let gone : HasNow c.args.key.now None c.self.inside.more.entries c.remove.new.self.entries =
    subst (λ k. HasNow k None c.self.inside.more.entries c.remove.new.self.entries) c.tree_key-2.ensures
    c.remove.ensures.updates.0 in
    sym (ap (λ x. found_at x c.args.key.now) (sym c.self.view_is) ∙ value_at-left_none (joined c.self.inside.table)
    c.self.inside.more.entries c.args.key.now lone ∙ is)

pub returns-clause-updates : goal.returns-clause-updates
returns-clause-updates g c q =
    let lone : value_at (joined c.self.inside.table) c.args.key.now ≡ None =
    sym (ap (value_at (joined c.self.inside.table)) c.tree_key.ensures) ∙ c.in_default.ensures.absent in
    let is : value_at c.self.inside.more.entries c.args.key.now ≡ Some c.in-Some-remove.value =
    sym (ap (value_at c.self.inside.more.entries) c.tree_key-2.ensures) ∙ sym c.remove.ensures.value ∙
    c.in-Some-remove.is in
    let gone : HasNow c.args.key.now None c.self.inside.more.entries c.remove.new.self.entries =
    subst (λ k. HasNow k None c.self.inside.more.entries c.remove.new.self.entries) c.tree_key-2.ensures
    c.remove.ensures.updates.0 in
    has_right (joined c.self.inside.table) c.self.inside.more.entries c.remove.new.self.entries c.args.key.now None
    gone lone q
    ∙ ap (λ x. cond (same c.args.key.now q) None (found_at x q)) c.self.view_is
