use Rattle.leases.proofs.Tellings.{tells_by_rule, tells_after_refusal, brings_last, heard_rises, no_beat_later}
use Rattle.leases.proofs.laws.tellings_are_by_rule.Goals as goal

pub returns-clause-over : goal.returns-clause-over
returns-clause-over c w whole now going says = tells_by_rule w whole now going says

pub returns-clause-gone : goal.returns-clause-gone
returns-clause-gone c w happenings whole now going says = tells_after_refusal w happenings whole now going says

pub returns-clause-last : goal.returns-clause-last
returns-clause-last c w whole now stamp says = brings_last w whole now stamp says

pub returns-clause-heard : goal.returns-clause-heard
returns-clause-heard c w happenings = heard_rises w happenings

pub returns-clause-silent : goal.returns-clause-silent
returns-clause-silent c w happenings whole now stamp left = no_beat_later w happenings whole now stamp left
