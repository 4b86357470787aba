use Rattle.std.proofs.Common.{arith, sym, subst}
use Rattle.hash_index.specs.Rows.{AreRows}
use Rattle.hash_index.proofs.RowLaws.{new_row, row_enough}
use Rattle.hash_index.proofs.rows.make_room.Goals as goal

-- a row more holds no more
pub returns-in_ok-push-clause-rows : goal.returns-in_ok-push-clause-rows
returns-in_ok-push-clause-rows g c =
    subst (λ rows. AreRows rows c.args.count) (sym c.in_ok-push.ensures.items)
    (new_row c.args.rows.now.items c.args.count c.in_ok-row.row c.requires c.in_ok-row.ensures)

-- as many rows as full ones: if there aren't, there is room
pub returns-else-at-len-clause-room : goal.returns-else-at-len-clause-room
returns-else-at-len-clause-room g c =
    row_enough c.args.rows.now.items c.args.count c.requires (λ e. c.if-at-len.false (omega (arith, e)))
