use Rattle.in_process_links.specs.ServerSets.{has_server}
use Rattle.in_process_links.proofs.ServerBits.{no_bit}
use Rattle.in_process_links.proofs.server_sets.ServerSet.new.Goals as goal

pub returns : goal.returns
unfolding has_server
returns c id = no_bit id
