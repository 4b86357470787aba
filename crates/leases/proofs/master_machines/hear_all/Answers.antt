use Rattle.std.proofs.Common.{arith}
use Rattle.leases.specs.ServerRecords.{ServerRecordState, heard_from}
use Rattle.leases.proofs.Passes.{written_more, written_all}
use Rattle.leases.proofs.master_machines.hear_all.Goals as goal

pub loop-server_record-preserved : goal.loop-server_record-preserved
loop-server_record-preserved c =
    written_more (λ (w : ServerRecordState). heard_from w c.args.from c.args.report.now c.args.now)
    c.args.server_records.now
    c.loop-server_record.server_records c.loop-server_record.server_record-index c.server_record-item.result
    c.hear.new.self (omega arith) c.loop-server_record.invariant
    c.server_record-item.is c.hear.ensures

pub returns : goal.returns
returns c =
    written_all (λ (w : ServerRecordState). heard_from w c.args.from c.args.report.now c.args.now)
    c.args.server_records.now
    c.loop-server_record.server_records c.loop-server_record.server_record-index (omega arith)
    c.loop-server_record.invariant
