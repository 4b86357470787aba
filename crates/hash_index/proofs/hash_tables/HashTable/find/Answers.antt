use Rattle.hash_index.proofs.SplitLaws.{found-value, not_found}
use Rattle.hash_index.proofs.hash_tables.HashTable.find.Goals as goal

pub returns-in-Some-clause-value : goal.returns-in-Some-clause-value
returns-in-Some-clause-value g c =
    found-value c.self.inside.half c.args.self.now c.self.inside.rows c.self.view_is c.self.invariant
    c.len-count.result
    c.place_of-bucket.result c.args.key.now c.len-count.ensures.len c.place_of-bucket.ensures c.if-count-eq0.false
    c.get.result.now c.get.ensures c.in-Some.slot c.in-Some.ensures.key

pub returns-in-None-clause-absent : goal.returns-in-None-clause-absent
returns-in-None-clause-absent g c =
    not_found c.self.inside.half c.args.self.now c.self.inside.rows c.self.view_is c.self.invariant c.len-count.result
    c.place_of-bucket.result c.args.key.now c.len-count.ensures.len c.place_of-bucket.ensures c.if-count-eq0.false
    c.get.result.now c.get.ensures c.in-None.ensures.absent
