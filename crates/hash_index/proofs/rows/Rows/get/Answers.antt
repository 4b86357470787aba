use Rattle.std.proofs.Common.{◌<◌, ◌/◌, ◌%◌, length, arith}
use Rattle.hash_index.proofs.RowLaws.{index_row, index_place, index_value}
use Rattle.hash_index.proofs.rows.Rows.get.Goals as goal

pub index-row-requires : goal.index-row-requires
index-row-requires g c =
    let row : c.args.i / 512 < length c.self.inside.rows.items =
    index_row c.self.inside.rows.items c.args.i c.self.inside.count c.args.self.now c.self.invariant.0 c.self.view_is
    c.requires in
    omega arith

pub index-requires : goal.index-requires
index-requires g c =
    let place : c.args.i % 512 < length c.index-row.result.now.items =
    index_place c.self.inside.rows.items c.args.i c.self.inside.count c.args.self.now c.self.invariant.0
    c.self.view_is c.requires
    c.index-row.result.now c.index-row.ensures in
    omega arith

pub returns : goal.returns
returns g c =
    index_value c.self.inside.rows.items c.args.i c.self.inside.count c.args.self.now c.self.invariant.0
    c.self.view_is c.requires
    c.index-row.result.now c.index-row.ensures c.index.result.now c.index.ensures
