use Rattle.front_tests.proofs.client_tests.is_over.Given as goal

abbrev pub invariant-loop : goal.invariant-loop
invariant-loop g l = g.B.Beside.known l.beside
