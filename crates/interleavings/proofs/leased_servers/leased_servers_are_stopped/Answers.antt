use Rattle.interleavings.specs.LeasedMoves.{opening_leased, home_of}
use Rattle.interleavings.proofs.leased.StoppedRuns.{seen_at, asked_still}
use Rattle.interleavings.proofs.leased_servers.leased_servers_are_stopped.Goals as goal

pub returns-clause-seen : goal.returns-clause-seen
returns-clause-seen c count homes moves k leases = seen_at count homes moves leases k

pub returns-clause-asked : goal.returns-clause-asked
returns-clause-asked c count homes moves asked =
    asked_still (home_of count homes) moves (opening_leased count homes) asked
