-- What came of a master's notices (this project's rule).
use Rattle.std.specs.Prelude.{ℕ, Bool, true, false, not, ◌&&◌, List, count_by, slice_index_or, Option, None, Some}
use Rattle.node.specs.Views.{View}
use Rattle.wire.specs.declared.greetings.Reason.{Reason}
use Rattle.master_decisions.specs.declared.notices.Answer.{Answer}
use Rattle.master_decisions.specs.declared.notices.Answer.TheVariants.{Unasked, Done, Silent, NoHost, Refused, Anew}
use Rattle.master_decisions.specs.declared.notices.Answer.TheVariants.{Untaken}
use Rattle.master_decisions.specs.ServerSets.{is_among}

-- the server has done what it was asked
abbrev pub is_done : Answer → Bool
is_done Unasked = false
is_done Done = true
is_done Silent = false
is_done NoHost = false
is_done (Refused reason) = false
is_done Anew = false
is_done Untaken = false

-- how many have
abbrev pub done_in : List Answer → ℕ
done_in answers = count_by is_done answers

-- what came of asking a server
abbrev pub answer_at : List Answer → ℕ → Answer
answer_at answers i = slice_index_or answers i Unasked

-- it gave no answer
abbrev pub is_silent : Answer → Bool
is_silent Unasked = false
is_silent Done = false
is_silent Silent = true
is_silent NoHost = true
is_silent (Refused reason) = false
is_silent Anew = false
is_silent Untaken = false

-- the same of this server, which isn't gone
abbrev pub is_silent_at : List Answer → View → ℕ → Bool
is_silent_at answers gone i = is_silent (answer_at answers i) && not (is_among gone i)

-- why it refuses the master, if it does
abbrev pub refusal_of : Answer → Option Reason
refusal_of Unasked = None
refusal_of Done = None
refusal_of Silent = None
refusal_of NoHost = None
refusal_of (Refused reason) = Some reason
refusal_of Anew = None
refusal_of Untaken = None

-- the same of this server
abbrev pub refusal_at : List Answer → ℕ → Option Reason
refusal_at answers i = refusal_of (answer_at answers i)
