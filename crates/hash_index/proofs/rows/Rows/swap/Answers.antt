use Rattle.std.proofs.Common.{◌≡◌, ◌<◌, ◌/◌, ◌%◌, length, get_or, set, arith, ap, sym, ◌∙◌, subst, refl}
use Rattle.std.proofs.lemmas.List.{length-set}
use Rattle.hash_index.proofs.RowLaws.{index_row, index_place, index_value, index_set, index_rows}
use Rattle.hash_index.proofs.rows.Rows.swap.Goals as goal

pub index_mut-row-requires : goal.index_mut-row-requires
index_mut-row-requires g c =
    let row : c.args.i / 512 < length c.self.inside.rows.items =
    index_row c.self.inside.rows.items c.args.i c.self.inside.count c.args.self.now c.self.invariant.0 c.self.view_is
    c.requires in
    omega arith

pub index_mut-requires : goal.index_mut-requires
index_mut-requires g c =
    let place : c.args.i % 512 < length c.index_mut-row.result.now.items =
    index_place c.self.inside.rows.items c.args.i c.self.inside.count c.args.self.now c.self.invariant.0
    c.self.view_is c.requires
    c.index_mut-row.result.now c.index_mut-row.ensures.value in
    omega arith

pub invariant_of-self : goal.invariant_of-self
invariant_of-self g c = (
  index_rows c.self.inside.rows.items c.args.i c.self.inside.count c.args.self.now c.self.invariant.0 c.self.view_is
      c.requires
      c.index_mut-row.result.now c.index_mut-row.ensures.value _
      (length-set c.index_mut-row.result.now.items (c.args.i % 512) c.replace.new.dest),
  c.self.invariant.1,
)

pub returns-clause-old : goal.returns-clause-old
returns-clause-old g c =
    subst (λ y. y ≡ get_or c.args.self.now c.args.i y) (sym c.replace.ensures.value)
    (index_value c.self.inside.rows.items c.args.i c.self.inside.count c.args.self.now c.self.invariant.0
    c.self.view_is c.requires
    c.index_mut-row.result.now c.index_mut-row.ensures.value c.index_mut.result.now c.index_mut.ensures.value)

pub returns-clause-new : goal.returns-clause-new
returns-clause-new g c =
    index_set c.self.inside.rows.items c.args.i c.self.inside.count c.args.self.now c.self.invariant.0 c.self.view_is
    c.requires
    c.index_mut-row.result.now c.index_mut-row.ensures.value _ c.replace.new.dest refl
    ∙ ap (set c.args.self.now c.args.i) c.replace.ensures.after
