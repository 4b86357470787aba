use Rattle.std.proofs.Common.{length, ap, arith}
use Rattle.std.proofs.lemmas.List.{length-append}
use Rattle.world.proofs.bodies.ServerLists.{opened_more, running_more}
use Rattle.world.proofs.servers.Servers.new.Goals as goal

-- one server more is there, before any input
pub loop-id-preserved : goal.loop-id-preserved
loop-id-preserved c =
    let so_far = c.loop-id.invariant in
    let ns = c.loop-id.nodes.items in
    let ms = c.push.new.self.items in
    record {
      servers = opened_more ns ms c.args.count c.loop-id.id c.opening_node.result so_far.servers
          c.opening_node.ensures c.in_ok-push.ensures.items;
      count = omega (arith, simp length-append at (ap length c.in_ok-push.ensures.items));
      running = running_more ns ms c.args.count c.loop-id.id c.opening_node.result so_far.running
          c.opening_node.ensures c.in_ok-push.ensures.items;
    }
