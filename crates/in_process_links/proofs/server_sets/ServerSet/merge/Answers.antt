use Rattle.in_process_links.specs.ServerSets.{has_server}
use Rattle.in_process_links.proofs.ServerBits.{either_bit}
use Rattle.in_process_links.proofs.server_sets.ServerSet.merge.Goals as goal

pub returns : goal.returns
unfolding has_server
returns c id = either_bit c.args.self.now.bits c.args.other.bits id
