use Rattle.std.proofs.Common.{◌≡◌, [], replicate}
use Rattle.world.proofs.links.Row.new.Given as goal

-- so far there is an empty link for each server that was counted
abbrev pub invariant-loop : goal.invariant-loop
invariant-loop l = l.links.items ≡ replicate l.counter []
