use Rattle.std.proofs.Common.{◌-◌, ◌/◌, ◌<◌, length, arith, ap, sym, ◌∙◌}
use Rattle.hash_index.proofs.RowLaws.{length-rows, last_row, last_rows, last_joined, none_left}
use Rattle.hash_index.proofs.rows.Rows.pop.Goals as goal

pub returns-then-self-eq0 : goal.returns-then-self-eq0
returns-then-self-eq0 g c =
    none_left c.args.self.now
    (sym (ap (λ xs. length xs) c.self.view_is)
    ∙ length-rows c.self.inside.rows.items c.self.inside.count c.self.invariant.0 ∙ c.if-self-eq0.true)

pub index_mut-requires : goal.index_mut-requires
index_mut-requires g c =
    let row : (c.self.inside.count - 1) / 512 < length c.self.inside.rows.items =
    last_row c.self.inside.rows.items c.self.inside.count c.self.invariant.0 c.if-self-eq0.false in
    omega arith

pub invariant_of-self : goal.invariant_of-self
invariant_of-self g c = (
  last_rows c.self.inside.rows.items c.self.inside.count c.self.invariant.0 c.if-self-eq0.false c.index_mut.result.now
      c.index_mut.ensures.value c.pop.new.self c.pop.ensures.rest,
  omega arith,
)

pub returns : goal.returns
returns g c =
    last_joined c.self.inside.rows.items c.self.inside.count c.self.invariant.0 c.if-self-eq0.false
    c.index_mut.result.now
    c.index_mut.ensures.value c.pop.new.self c.pop.ensures.rest c.args.self.now c.self.view_is
