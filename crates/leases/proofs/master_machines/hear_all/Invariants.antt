use Rattle.std.proofs.Common.{◌≡◌, ◌++◌, map, take, drop}
use Rattle.leases.specs.ServerRecords.{ServerRecordState, heard_from}
use Rattle.leases.proofs.master_machines.hear_all.Given as goal

abbrev pub invariant-loop-server_record : goal.invariant-loop-server_record
invariant-loop-server_record l =
    l.server_records ≡ map (λ (w : ServerRecordState). heard_from w l.from l.report l.now)
    (take l.server_record-index l.initial.server_records)
    ++ drop l.server_record-index l.initial.server_records
