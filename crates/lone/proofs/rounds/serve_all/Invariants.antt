use Rattle.std.proofs.Common.{◌≡◌, None}
use Rattle.lone.proofs.rounds.serve_all.Given as goal

-- no call is open
abbrev pub invariant-loop : goal.invariant-loop
invariant-loop l = l.session.asked ≡ None
