use Rattle.interleavings.proofs.leased.UngoneCalls.{none_forgotten_ungone}
use Rattle.interleavings.proofs.leased_servers.leased_runs_forget_no_call.Goals as goal

pub returns : goal.returns
returns c count homes moves few short asked leases quiet =
    none_forgotten_ungone count homes moves leases few short asked quiet
