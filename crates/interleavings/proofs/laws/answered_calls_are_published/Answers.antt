use Rattle.interleavings.proofs.rows.Answered.{answered_published, own_answered_published}
use Rattle.interleavings.proofs.laws.answered_calls_are_published.Goals as goal

pub returns-clause-calls : goal.returns-clause-calls
returns-clause-calls c count homes moves x few answered = answered_published count homes moves few x answered

pub returns-clause-own_ports : goal.returns-clause-own_ports
returns-clause-own_ports c count homes moves x i few here within answered =
    own_answered_published count homes moves x i few here within answered
