use Rattle.std.proofs.Common.{ap, ◌∙◌, arith}
use Rattle.leases.specs.ServerRecords.{unmet}
use Rattle.leases.specs.MasterMachines.{unmet_in}
use Rattle.leases.proofs.Passes.{put_more}
use Rattle.leases.proofs.master_machines.new_server_records.Goals as goal

pub loop-id-preserved : goal.loop-id-preserved
loop-id-preserved c =
    put_more (unmet_in c.args.servers c.args.paces.beat c.args.paces.after) c.loop-id.server_records.items
    c.push.new.self.items c.loop-id.id c.new.result c.loop-id.invariant
    (c.new.ensures ∙ ap (λ others. unmet c.loop-id.id others c.args.paces.beat c.args.paces.after) c.others_of.ensures)
    c.in_ok-push.ensures.items
