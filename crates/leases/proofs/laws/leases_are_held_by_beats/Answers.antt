use Rattle.leases.proofs.Holders.{held_by_a_beat, learned_while_held}
use Rattle.leases.proofs.laws.leases_are_held_by_beats.Goals as goal

pub returns-clause-held : goal.returns-clause-held
returns-clause-held c term hearings now held = held_by_a_beat term hearings now held

pub returns-clause-known : goal.returns-clause-known
returns-clause-known c term hearings id named = learned_while_held term hearings id named
