use Rattle.std.proofs.Common.{◌≡◌, length}
use Rattle.craq_server.specs.Wiring.{IsSeated}
use Rattle.craq_server.proofs.dealing.inlets_for_all.Given as goal

-- each server so far has taken its own
abbrev pub invariant-loop-j : goal.invariant-loop-j
invariant-loop-j l = record {
  count : l.j ≡ length l.taken.items;
  seated : IsSeated l.id l.fn.inlets.items l.inlets.items l.taken.items;
}
