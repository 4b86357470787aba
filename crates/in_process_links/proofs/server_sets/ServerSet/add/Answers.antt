use Rattle.std.proofs.Common.{◌%◌, arith}
use Rattle.in_process_links.specs.ServerSets.{has_server}
use Rattle.in_process_links.proofs.ServerBits.{one_more_bit}
use Rattle.in_process_links.proofs.server_sets.ServerSet.add.Goals as goal

pub returns : goal.returns
unfolding has_server
returns c j = rw c.bit.ensures (one_more_bit c.args.self.now.bits (c.args.id % 32) j (omega arith))
