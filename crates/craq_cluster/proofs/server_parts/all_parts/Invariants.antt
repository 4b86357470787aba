use Rattle.std.proofs.Common.{◌≡◌, ◌+◌, length, vec_len}
use Rattle.std.specs.Vec.Iter.{into_iter_items}
use Rattle.craq_process.specs.Schedulers.{ids}
use Rattle.craq_cluster.specs.Wiring.{numbers, senders}
use Rattle.craq_cluster.proofs.Standing.{AreFrom, worker_ids}
use Rattle.craq_cluster.proofs.Wired.{ArePartsSoFar}
use Rattle.craq_cluster.proofs.server_parts.all_parts.Given as goal

-- each server so far has its parts, and a place in the scheduler; the workers and the links that are left are those of
-- the servers after them
abbrev pub invariant-loop-server : goal.invariant-loop-server
invariant-loop-server g l = record {
  count : vec_len l.all_server_parts + length (into_iter_items l.server-iterator) ≡ vec_len l.fn.servers;
  scheduler : ids l.scheduler ≡ numbers (vec_len l.all_server_parts);
  workers : AreFrom (vec_len l.all_server_parts) (worker_ids (into_iter_items l.server-iterator));
  links : AreFrom (vec_len l.all_server_parts) (senders (into_iter_items l.left));
  all_server_parts : ArePartsSoFar l.fn.servers.items (into_iter_items l.server-iterator) l.all_server_parts.items;
}
