use Rattle.world.proofs.failures.FailedServers.{lives_where_not_failed}
use Rattle.world.proofs.laws.failed_servers.Goals as goal

-- a server of the chain lives exactly if no event is its failure
pub returns : goal.returns
returns c = lives_where_not_failed
