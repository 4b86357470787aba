use Rattle.std.proofs.Common.{◌≡◌, length, vec_len}
use Rattle.craq_cluster.specs.Wiring.{IsDealt, cores_of, inlets_in, inlets_of}
use Rattle.craq_cluster.proofs.server_parts.links_of.Given as goal

-- the links to the servers so far
abbrev pub invariant-loop-j : goal.invariant-loop-j
invariant-loop-j g l = record {
  count : l.j ≡ length l.links.items;
  servers : vec_len l.servers ≡ vec_len l.fn.servers;
  cores : cores_of l.servers.items ≡ cores_of l.fn.servers.items;
  dealt : IsDealt l.id (inlets_of l.fn.servers.items) (inlets_of l.servers.items) (inlets_in l.links.items);
}
