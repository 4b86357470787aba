-- Requests that wait for the answer of a server (this project's rule).
use Rattle.std.specs.Prelude.{ℕ, ◌+◌, ◌-◌, ◌^◌, min, nat_eq, nat_le, Bool, true, false, Option, None, Some, is_none, is_some}
use Rattle.std.specs.Prelude.{if◌then◌else◌, ◌||◌}
use Rattle.leases.specs.declared.orders.Order.{Order}
use Rattle.leases.specs.declared.orders.Order.TheVariants as orders
use Rattle.master_decisions.specs.declared.notices.Answer.{Answer}
use Rattle.master_decisions.specs.declared.notices.Answer.TheVariants as answers
use Rattle.master_decisions.specs.declared.openings.Opening.{Opening}
use Rattle.master_decisions.specs.declared.openings.Opening.TheVariants as openings
use Rattle.master_decisions.specs.declared.waits.Cause.{Cause}
use Rattle.master_decisions.specs.declared.waits.Cause.TheVariants as causes
use Rattle.master_decisions.specs.declared.waits.Reply.{Reply}
use Rattle.master_decisions.specs.declared.waits.Reply.TheVariants as replies
use Rattle.master_decisions.specs.declared.waits.Waiting.{Waiting}
use Rattle.master_decisions.specs.Openings.{is_that}
use Rattle.master_decisions.specs.Orders.{named_in}

-- an answer, if this holds
abbrev pub answer_if : Bool → Answer → Option Answer
answer_if true answer = Some answer
answer_if false answer = None

-- how a server is that tells in which epoch it is: a look is answered by that; a notice of silence isn't taken in
-- another epoch
abbrev pub told_to : Order → ℕ → Option Answer
told_to (orders.Reign epoch) told = Some answers.Done
told_to (orders.Beat epoch stamp) told = None
told_to (orders.Silent epoch id) told = if nat_eq epoch told then None else Some answers.Untaken
told_to (orders.Gone id) told = None

-- what a reply means for an order
abbrev pub reply_to : Order → Reply → Option Answer
reply_to order (replies.Noted id) = answer_if (is_that (named_in order) id) answers.Done
reply_to order (replies.Told told) = told_to order told

-- The time is over, if it has begun. It is if nothing says how late it is.
abbrev pub is_over : Option ℕ → Option ℕ → Bool
is_over None now = false
is_over (Some until) None = true
is_over (Some until) (Some now) = nat_le until now

-- what it means for an order that a connection was opened so
abbrev pub ended_by_opening : ℕ → Order → Opening → Option Answer
ended_by_opening own order openings.Accepted = None
ended_by_opening own order openings.Anew = if is_that (named_in order) own then None else Some answers.Anew
ended_by_opening own order openings.NoHost = Some answers.NoHost
ended_by_opening own order openings.NoListener = Some answers.Silent
ended_by_opening own order openings.NoAnswer = Some answers.Silent
ended_by_opening own order (openings.Refused reason) = Some (answers.Refused reason)

-- what a request of a server is answered by a cause, if it is
abbrev pub answer_by : ℕ → Waiting → Cause → Option Answer
answer_by own waiting (causes.Reply reply) = reply_to waiting.order reply
answer_by own waiting (causes.Time now) = answer_if (is_over waiting.until now) answers.Silent
answer_by own waiting causes.Break = answer_if waiting.is_last answers.Silent
answer_by own waiting (causes.Opening opening) = ended_by_opening own waiting.order opening

-- a request once the connection has ended: it is to be written to the next one, for the last time if it was written
abbrev pub renewed : Waiting → Waiting
renewed waiting = record waiting { until = None; is_last = is_some waiting.until || waiting.is_last }

-- it isn't written to the connection that stands
abbrev pub is_unwritten : Waiting → Bool
is_unwritten waiting = is_none waiting.until

-- it is written, when it is so late; no clock shows more than 2^64 - 1
abbrev pub written_at : ℕ → Waiting → Waiting
written_at now waiting = record waiting { until = Some (min (now + waiting.patience) (2 ^ 64 - 1)) }

-- it is answered by this cause
abbrev pub is_answered : ℕ → Cause → Waiting → Bool
is_answered own cause waiting = is_some (answer_by own waiting cause)

-- what is ordered
abbrev pub order_of : Waiting → Order
order_of waiting = waiting.order

-- the request that was answered
abbrev pub request_of : (Waiting × Answer) → Waiting
request_of given = given.0
