use Rattle.std.proofs.Common.{◌≡◌}
use Rattle.master_decisions.specs.Beats.{all_given_up}
use Rattle.master_decisions.proofs.beats.give_up_all.Given as goal

abbrev pub invariant-loop-i : goal.invariant-loop-i
invariant-loop-i l = l.master_machine ≡ all_given_up l.gone l.i l.initial.master_machine
