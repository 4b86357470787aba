use Rattle.std.proofs.Common.{◌≡◌}
use Rattle.leases.specs.MasterMachines.{unmet_below}
use Rattle.leases.proofs.master_machines.new_server_records.Given as goal

abbrev pub invariant-loop-id : goal.invariant-loop-id
invariant-loop-id l = l.server_records.items ≡ unmet_below l.servers l.paces.beat l.paces.after l.id
