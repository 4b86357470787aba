use Rattle.std.proofs.Common.{◌≡◌, ◌++◌, cond, Some, None, ap, sym, ◌∙◌, subst}
use Rattle.std.specs.Option.{IsSome, is_some}
use Rattle.hash_index.specs.declared.places.Place.TheVariants.{Slot, Tree}
use Rattle.hash_index.specs.Entries.{value_at, key_in, AreApart}
use Rattle.hash_index.specs.Tables.{joined, bucket_at, HasNow}
use Rattle.hash_index.specs.Indexes.{found_at, IsPlaceOf}
use Rattle.hash_index.proofs.EntryLaws.{same, value_at-left_none, AreApart-other}
use Rattle.hash_index.proofs.IndexLaws.{other_of, found_left, found_left_as, has_left, has_left_apart, has_right}
use Rattle.hash_index.proofs.IndexLaws.{has_right_apart, length-kept}
use Rattle.hash_index.proofs.indexes.Index.swap_at.Goals as goal

pub invariant_of-self : goal.invariant_of-self
invariant_of-self g c =
    let place : IsPlaceOf c.args.self.now (Slot c.in-Slot.bucket c.in-Slot.slot) c.args.key.now =
    subst (λ p. IsPlaceOf c.args.self.now p c.args.key.now) c.in-Slot.is c.requires in
    let at : key_in (bucket_at c.self.inside.table c.in-Slot.bucket) c.in-Slot.slot ≡ Some c.args.key.now =
    subst (λ x. key_in (bucket_at x.buckets c.in-Slot.bucket) c.in-Slot.slot ≡ Some c.args.key.now) (sym
    c.self.view_is) place in
    let is : value_at (joined c.self.inside.table) c.args.key.now ≡ Some c.swap.result = c.swap.ensures.old
    c.args.key.now at in
    let there : IsSome (value_at (joined c.self.inside.table) c.args.key.now) = ap is_some is in
    let lone : value_at c.self.inside.more.entries c.args.key.now ≡ None = other_of (joined c.self.inside.table)
    c.self.inside.more.entries c.self.invariant.apart c.args.key.now there in
    let put : HasNow c.args.key.now (Some c.args.value) (joined c.self.inside.table) (joined c.swap.new.self) =
    c.swap.ensures.updates c.args.key.now at in
    let apart : AreApart ((joined c.swap.new.self) ++ c.self.inside.more.entries) =
    has_left_apart (joined c.self.inside.table) (joined c.swap.new.self) c.self.inside.more.entries c.args.key.now
    (Some c.args.value) c.swap.ensures.apart c.self.invariant.apart put lone in
    record {
      apart = apart;
      counted =
          length-kept ((joined c.self.inside.table) ++ c.self.inside.more.entries) ((joined c.swap.new.self) ++
          c.self.inside.more.entries) c.args.key.now c.args.value c.self.invariant.apart apart
          (ap is_some (found_left (joined c.self.inside.table) c.self.inside.more.entries c.args.key.now there) ∙
          there)
          (has_left (joined c.self.inside.table) (joined c.swap.new.self) c.self.inside.more.entries c.args.key.now
          (Some c.args.value) put lone)
          ∙ c.self.invariant.counted;
    }

pub returns-in-Slot-clause-old : goal.returns-in-Slot-clause-old
returns-in-Slot-clause-old g c =
    let place : IsPlaceOf c.args.self.now (Slot c.in-Slot.bucket c.in-Slot.slot) c.args.key.now =
    subst (λ p. IsPlaceOf c.args.self.now p c.args.key.now) c.in-Slot.is c.requires in
    let at : key_in (bucket_at c.self.inside.table c.in-Slot.bucket) c.in-Slot.slot ≡ Some c.args.key.now =
    subst (λ x. key_in (bucket_at x.buckets c.in-Slot.bucket) c.in-Slot.slot ≡ Some c.args.key.now) (sym
    c.self.view_is) place in
    let is : value_at (joined c.self.inside.table) c.args.key.now ≡ Some c.swap.result = c.swap.ensures.old
    c.args.key.now at in
    let there : IsSome (value_at (joined c.self.inside.table) c.args.key.now) = ap is_some is in
    let lone : value_at c.self.inside.more.entries c.args.key.now ≡ None = other_of (joined c.self.inside.table)
    c.self.inside.more.entries c.self.invariant.apart c.args.key.now there in
    let put : HasNow c.args.key.now (Some c.args.value) (joined c.self.inside.table) (joined c.swap.new.self) =
    c.swap.ensures.updates c.args.key.now at in
    sym (ap (λ x. found_at x c.args.key.now) (sym c.self.view_is) ∙ found_left_as (joined c.self.inside.table)
    c.self.inside.more.entries c.args.key.now c.swap.result is)

pub returns-in-Slot-clause-updates : goal.returns-in-Slot-clause-updates
returns-in-Slot-clause-updates g c q =
    let place : IsPlaceOf c.args.self.now (Slot c.in-Slot.bucket c.in-Slot.slot) c.args.key.now =
    subst (λ p. IsPlaceOf c.args.self.now p c.args.key.now) c.in-Slot.is c.requires in
    let at : key_in (bucket_at c.self.inside.table c.in-Slot.bucket) c.in-Slot.slot ≡ Some c.args.key.now =
    subst (λ x. key_in (bucket_at x.buckets c.in-Slot.bucket) c.in-Slot.slot ≡ Some c.args.key.now) (sym
    c.self.view_is) place in
    let is : value_at (joined c.self.inside.table) c.args.key.now ≡ Some c.swap.result = c.swap.ensures.old
    c.args.key.now at in
    let there : IsSome (value_at (joined c.self.inside.table) c.args.key.now) = ap is_some is in
    let lone : value_at c.self.inside.more.entries c.args.key.now ≡ None = other_of (joined c.self.inside.table)
    c.self.inside.more.entries c.self.invariant.apart c.args.key.now there in
    let put : HasNow c.args.key.now (Some c.args.value) (joined c.self.inside.table) (joined c.swap.new.self) =
    c.swap.ensures.updates c.args.key.now at in
    has_left (joined c.self.inside.table) (joined c.swap.new.self) c.self.inside.more.entries c.args.key.now (Some
    c.args.value) put lone q
    ∙ ap (λ x. cond (same c.args.key.now q) (Some c.args.value) (found_at x q)) c.self.view_is

pub invariant_of-self-in-Tree : goal.invariant_of-self-in-Tree
invariant_of-self-in-Tree g c =
    let place : IsPlaceOf c.args.self.now Tree c.args.key.now =
    subst (λ p. IsPlaceOf c.args.self.now p c.args.key.now) c.in-Tree.is c.requires in
    let there : IsSome (value_at c.self.inside.more.entries c.args.key.now) =
    subst (λ x. IsSome (value_at x.rest c.args.key.now)) (sym c.self.view_is) place in
    let lone : value_at (joined c.self.inside.table) c.args.key.now ≡ None = AreApart-other (joined
    c.self.inside.table) c.self.inside.more.entries c.self.invariant.apart c.args.key.now there in
    let put : HasNow c.args.key.now (Some c.args.value) c.self.inside.more.entries c.swap-in-Tree.new.tree.entries =
    subst (λ k. HasNow k (Some c.args.value) c.self.inside.more.entries c.swap-in-Tree.new.tree.entries)
    c.tree_key.ensures c.swap-in-Tree.ensures.updates in
    let apart : AreApart ((joined c.self.inside.table) ++ c.swap-in-Tree.new.tree.entries) =
    has_right_apart (joined c.self.inside.table) c.self.inside.more.entries c.swap-in-Tree.new.tree.entries
    c.args.key.now (Some c.args.value) c.swap-in-Tree.ensures.apart c.self.invariant.apart put lone in
    record {
      apart = apart;
      counted =
          length-kept ((joined c.self.inside.table) ++ c.self.inside.more.entries) ((joined c.self.inside.table) ++
          c.swap-in-Tree.new.tree.entries) c.args.key.now c.args.value c.self.invariant.apart apart
          (ap is_some (value_at-left_none (joined c.self.inside.table) c.self.inside.more.entries c.args.key.now
          lone) ∙ there)
          (has_right (joined c.self.inside.table) c.self.inside.more.entries c.swap-in-Tree.new.tree.entries
          c.args.key.now (Some c.args.value) put lone)
          ∙ c.self.invariant.counted;
    }

pub returns-in-Tree-clause-old : goal.returns-in-Tree-clause-old
returns-in-Tree-clause-old g c =
    let place : IsPlaceOf c.args.self.now Tree c.args.key.now =
    subst (λ p. IsPlaceOf c.args.self.now p c.args.key.now) c.in-Tree.is c.requires in
    let there : IsSome (value_at c.self.inside.more.entries c.args.key.now) =
    subst (λ x. IsSome (value_at x.rest c.args.key.now)) (sym c.self.view_is) place in
    let lone : value_at (joined c.self.inside.table) c.args.key.now ≡ None = AreApart-other (joined
    c.self.inside.table) c.self.inside.more.entries c.self.invariant.apart c.args.key.now there in
    let put : HasNow c.args.key.now (Some c.args.value) c.self.inside.more.entries c.swap-in-Tree.new.tree.entries =
    subst (λ k. HasNow k (Some c.args.value) c.self.inside.more.entries c.swap-in-Tree.new.tree.entries)
    c.tree_key.ensures c.swap-in-Tree.ensures.updates in
    c.swap-in-Tree.ensures.old ∙ ap (value_at c.self.inside.more.entries) c.tree_key.ensures
    ∙ sym (value_at-left_none (joined c.self.inside.table) c.self.inside.more.entries c.args.key.now lone) ∙ ap (λ x.
    found_at x c.args.key.now) c.self.view_is

pub returns-in-Tree-clause-updates : goal.returns-in-Tree-clause-updates
returns-in-Tree-clause-updates g c q =
    let place : IsPlaceOf c.args.self.now Tree c.args.key.now =
    subst (λ p. IsPlaceOf c.args.self.now p c.args.key.now) c.in-Tree.is c.requires in
    let there : IsSome (value_at c.self.inside.more.entries c.args.key.now) =
    subst (λ x. IsSome (value_at x.rest c.args.key.now)) (sym c.self.view_is) place in
    let lone : value_at (joined c.self.inside.table) c.args.key.now ≡ None = AreApart-other (joined
    c.self.inside.table) c.self.inside.more.entries c.self.invariant.apart c.args.key.now there in
    let put : HasNow c.args.key.now (Some c.args.value) c.self.inside.more.entries c.swap-in-Tree.new.tree.entries =
    subst (λ k. HasNow k (Some c.args.value) c.self.inside.more.entries c.swap-in-Tree.new.tree.entries)
    c.tree_key.ensures c.swap-in-Tree.ensures.updates in
    has_right (joined c.self.inside.table) c.self.inside.more.entries c.swap-in-Tree.new.tree.entries c.args.key.now
    (Some c.args.value) put lone q
    ∙ ap (λ x. cond (same c.args.key.now q) (Some c.args.value) (found_at x q)) c.self.view_is
