use Rattle.std.proofs.Common.{arith}
use Rattle.leases.specs.ServerRecords.{ServerRecordState, begun}
use Rattle.leases.proofs.Passes.{written_more, written_all}
use Rattle.leases.proofs.master_machines.begin_all.Goals as goal

pub loop-server_record-preserved : goal.loop-server_record-preserved
loop-server_record-preserved c =
    written_more (λ (w : ServerRecordState). begun w c.args.epoch) c.args.server_records.now
    c.loop-server_record.server_records c.loop-server_record.server_record-index
    c.server_record-item.result c.begin.new.self (omega arith) c.loop-server_record.invariant c.server_record-item.is
    c.begin.ensures

pub returns : goal.returns
returns c =
    written_all (λ (w : ServerRecordState). begun w c.args.epoch) c.args.server_records.now
    c.loop-server_record.server_records c.loop-server_record.server_record-index
    (omega arith) c.loop-server_record.invariant
