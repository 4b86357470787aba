use Rattle.std.proofs.Common.{◌≡◌, false, length, map, All}
use Rattle.world.specs.Worlds.{opening_servers}
use Rattle.world.proofs.servers.Servers.new.Given as goal

-- so far there are the first servers of the chain, before any input, and none is stopped
abbrev pub invariant-loop-id : goal.invariant-loop-id
invariant-loop-id l = record {
  servers : map (λ n. n.server) l.nodes.items ≡ opening_servers l.count l.id;
  count : length l.nodes.items ≡ l.id;
  running : All (λ n. n.stopped ≡ false) l.nodes.items;
}
