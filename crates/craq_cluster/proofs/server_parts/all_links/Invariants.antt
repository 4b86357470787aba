use Rattle.std.proofs.Common.{◌≡◌, length, vec_len}
use Rattle.craq_cluster.specs.Wiring.{AreDealt, all_inlets_in, cores_of, inlets_of, numbers, senders}
use Rattle.craq_cluster.proofs.server_parts.all_links.Given as goal

-- the links of the servers so far
abbrev pub invariant-loop-id : goal.invariant-loop-id
invariant-loop-id g l = record {
  count : l.id ≡ length l.all.items;
  servers : vec_len l.servers ≡ vec_len l.fn.servers;
  cores : cores_of l.servers.items ≡ cores_of l.fn.servers.items;
  senders : senders l.all.items ≡ numbers l.id;
  dealt : AreDealt (inlets_of l.fn.servers.items) (inlets_of l.servers.items) (all_inlets_in l.all.items);
}
