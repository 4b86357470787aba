use Rattle.std.proofs.Common.{◌≡◌, All, vec_len}
use Rattle.craq_process.specs.Wiring.{HasOwnPools, LeadsToOwnInbox}
use Rattle.craq_cluster.specs.Wiring.{cores_of, openings, starts_of}
use Rattle.craq_cluster.proofs.server_parts.all_servers.Given as goal

-- the servers that were made
abbrev pub invariant-loop-id : goal.invariant-loop-id
invariant-loop-id g l = record {
  count : vec_len l.servers ≡ l.id;
  workers : starts_of l.servers.items ≡ openings l.id l.count;
  pools : All HasOwnPools (cores_of l.servers.items);
  inlets : All (λ server. LeadsToOwnInbox server) l.servers.items;
}
