use Rattle.std.proofs.Common.{◌/◌, ◌%◌, length, arith, ap, ◌∙◌, ◌++◌, ◌∷◌, []}
use Rattle.hash_index.proofs.RowLaws.{set_row-are_rows, push_row, push_row-are_rows, same_rows, on_err}
use Rattle.hash_index.proofs.rows.Rows.push.Goals as goal

pub invariant_of-self-in_err-push : goal.invariant_of-self-in_err-push
invariant_of-self-in_err-push g c = (
  set_row-are_rows c.make_room.new.rows.items (c.self.inside.count / 512) c.self.inside.count c.index_mut.result.now
      c.push.new.self c.in_ok-make_room.ensures.rows
      (ap (λ xs. length xs) c.in_err-push.ensures.items ∙ ap (λ v. length v.items) c.index_mut.ensures.value),
  c.self.invariant.1,
)

pub returns-in_err-push-clause-err : goal.returns-in_err-push-clause-err
returns-in_err-push-clause-err g c =
    on_err c.from_residual-in_err-push.result
    (same_rows c.make_room.new.rows.items (c.self.inside.count / 512) c.index_mut.result.now c.push.new.self
    c.index_mut.ensures.value c.in_err-push.ensures.items
    ∙ c.in_ok-make_room.ensures.same ∙ c.self.view_is)

pub invariant_of-self-2 : goal.invariant_of-self-2
invariant_of-self-2 g c = (
  push_row-are_rows c.make_room.new.rows.items (c.self.inside.count / 512) (c.self.inside.count % 512)
      c.self.inside.count
      c.index_mut.result.now c.push.new.self c.args.value c.in_ok-make_room.ensures.rows (omega arith) (omega arith)
      c.in_ok-make_room.ensures.room
      (c.in_ok-push.ensures.items ∙ ap (λ v. v.items ++ c.args.value ∷ []) c.index_mut.ensures.value),
  omega arith,
)

pub returns-clause-ok : goal.returns-clause-ok
returns-clause-ok g c =
    push_row c.make_room.new.rows.items (c.self.inside.count / 512) (c.self.inside.count % 512) c.self.inside.count
    c.index_mut.result.now c.push.new.self c.args.value c.in_ok-make_room.ensures.rows (omega arith) (omega arith)
    c.in_ok-make_room.ensures.room
    (c.in_ok-push.ensures.items ∙ ap (λ v. v.items ++ c.args.value ∷ []) c.index_mut.ensures.value)
    ∙ ap (λ xs. xs ++ c.args.value ∷ []) (c.in_ok-make_room.ensures.same ∙ c.self.view_is)
