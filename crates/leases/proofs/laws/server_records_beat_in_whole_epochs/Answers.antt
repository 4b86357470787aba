use Rattle.leases.proofs.Recording.{whole_for_beat, told_for_beat}
use Rattle.leases.proofs.laws.server_records_beat_in_whole_epochs.Goals as goal

pub returns-clause-own : goal.returns-clause-own
returns-clause-own c w now stamp says = (whole_for_beat w now stamp says).0

pub returns-clause-whole : goal.returns-clause-whole
returns-clause-whole c w epoch all now stamp id says other = told_for_beat w epoch all now stamp id says other
