use Rattle.std.proofs.Common.{◌≡◌, ◌++◌, map, take, drop}
use Rattle.leases.specs.ServerRecords.{ServerRecordState, spared}
use Rattle.leases.proofs.master_machines.spare_all.Given as goal

abbrev pub invariant-loop-server_record : goal.invariant-loop-server_record
invariant-loop-server_record l =
    l.server_records ≡ map (λ (w : ServerRecordState). spared w) (take l.server_record-index l.initial.server_records)
    ++ drop l.server_record-index l.initial.server_records
