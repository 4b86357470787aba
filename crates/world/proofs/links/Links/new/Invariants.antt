use Rattle.std.proofs.Common.{◌≡◌, [], length, replicate}
use Rattle.world.proofs.links.Links.new.Given as goal

-- so far there is a row of empty links for each server that was counted
abbrev pub invariant-loop : goal.invariant-loop
invariant-loop l = record {
  rows : l.rows.items ≡ replicate l.counter (replicate l.count []);
  count : length l.rows.items ≡ l.counter;
}
