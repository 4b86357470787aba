use Rattle.proto.proofs.WriteLaws.{replies_are_outcomes}
use Rattle.interleavings.proofs.served.Outcomes.{unrefused_all}
use Rattle.interleavings.proofs.served.Unrefused.{all_replied}
use Rattle.interleavings.proofs.laws.without_refusals_all_is_replied.Goals as goal

pub returns-clause-outcomes : goal.returns-clause-outcomes
returns-clause-outcomes c does count homes moves a n none = all_replied does count homes moves none a n

pub returns-clause-calls : goal.returns-clause-calls
returns-clause-calls c calls replies = unrefused_all calls replies

pub returns-clause-texts : goal.returns-clause-texts
returns-clause-texts c ts replies = replies_are_outcomes ts replies
