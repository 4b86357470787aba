-- What it means how a connection to a server was opened (this project's rule).
use Rattle.std.specs.Prelude.{ℕ, nat_eq, Bool, true, false, Option, None, Some}
use Rattle.leases.specs.declared.orders.Order.{Order}
use Rattle.master_decisions.specs.declared.notices.Answer.{Answer}
use Rattle.master_decisions.specs.declared.notices.Answer.TheVariants as answers
use Rattle.master_decisions.specs.declared.openings.Opening.{Opening}
use Rattle.master_decisions.specs.declared.openings.Opening.TheVariants.{Accepted, Anew, NoHost, NoListener, NoAnswer, Refused}
use Rattle.master_decisions.specs.declared.standings.Observation.{Observation}
use Rattle.master_decisions.specs.declared.standings.Observation.TheVariants as observations
use Rattle.master_decisions.specs.Orders.{named_in}

-- for a watch: a process has ended only if nothing listens at its port, or another start does
abbrev pub observation_of : Opening → Observation
observation_of Accepted = observations.Accepted
observation_of Anew = observations.Replaced
observation_of NoHost = observations.Unreached
observation_of NoListener = observations.Refused
observation_of NoAnswer = observations.Unreached
observation_of (Refused reason) = observations.Unreached

-- for a request that waits
abbrev pub answer_of : Opening → Answer
answer_of Accepted = answers.Done
answer_of Anew = answers.Anew
answer_of NoHost = answers.NoHost
answer_of NoListener = answers.Silent
answer_of NoAnswer = answers.Silent
answer_of (Refused reason) = answers.Refused reason

-- this is one of these, if there is one
abbrev pub is_that : Option ℕ → ℕ → Bool
is_that None own = false
is_that (Some id) own = nat_eq id own

-- another start of a server is told only of itself
abbrev pub may_go : Bool → ℕ → Order → Bool
may_go true own order = true
may_go false own order = is_that (named_in order) own
