use Rattle.std.proofs.Common.{◌≡◌, ◌++◌}
use Rattle.std.specs.Vec.Iter.{into_iter_items}
use Rattle.craq_cluster.specs.Wiring.{controls_of, pools_in, pools_of}
use Rattle.craq_cluster.proofs.clusters.all_served_servers.Given as goal

-- each server so far has its control, and its seats are those that are served
abbrev pub invariant-loop-parts : goal.invariant-loop-parts
invariant-loop-parts l = record {
  controls : controls_of l.fn.all_server_parts.items ≡ l.controls.items
      ++ controls_of (into_iter_items l.parts-iterator);
  pools : pools_of l.fn.all_server_parts.items ≡ pools_in l.served_servers.items
      ++ pools_of (into_iter_items l.parts-iterator);
}
