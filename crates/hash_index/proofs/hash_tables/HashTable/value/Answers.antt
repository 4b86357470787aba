use Rattle.hash_index.proofs.SplitLaws.{slot_there}
use Rattle.hash_index.proofs.hash_tables.HashTable.value.Goals as goal

pub value-requires : goal.value-requires
value-requires g c =
    slot_there c.self.inside.half c.args.self.now c.self.inside.rows c.self.view_is c.self.invariant c.args.bucket
    c.args.slot
    c.requires c.get.result.now c.get.ensures
