use Rattle.std.proofs.Common.{◌≡◌, replicate}
use Rattle.craq_settings.specs.Hosts.{texts}
use Rattle.craq_settings.proofs.settings.repeated.Given as goal

abbrev pub invariant-loop : goal.invariant-loop
invariant-loop l = texts l.hosts.items ≡ replicate l.counter l.address
