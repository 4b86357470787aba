-- A look at all servers of a chain (this project's rule).
use Rattle.std.specs.Prelude.{ℕ, ◌-◌, nat_le, Bool, List, [], ◌∷◌, ◌++◌, length, Option, Some, None, slice_get}
use Rattle.std.specs.Prelude.{if◌then◌else◌}
use Rattle.chain_status.specs.declared.answers.ServerAnswer.{ServerAnswer}
use Rattle.chain_status.specs.declared.reports.ServerReport.{ServerReport}
use Rattle.chain_status.specs.declared.roles.Role.{Role}
use Rattle.chain_status.specs.declared.rates.Rates.{Rates}
use Rattle.chain_status.specs.Answers.{report_at, gone_by}
use Rattle.chain_status.specs.Roles.{last_below, role_of}
use Rattle.chain_status.specs.Rates.{rates_between}

-- the answers of the servers by their ids, and when they were asked, in nanoseconds
pub record Look : Type 0 where
  pub answers : List ServerAnswer
  pub time : ℕ

-- it has found nothing yet
abbrev pub begun : ℕ → Look
begun time = record { answers = []; time = time }

-- it has the answers of as many servers as a chain may have
abbrev pub is_full : Look → Bool
is_full look = nat_le 16 (length look.answers)

-- the answer of the next server
abbrev pub with_answer : Look → ServerAnswer → Look
with_answer look answer = record look { answers = look.answers ++ answer ∷ [] }

abbrev pub servers_of : Look → ℕ
servers_of look = length look.answers

abbrev pub answer_at : Look → ℕ → Option ServerAnswer
answer_at look i = slice_get look.answers i

-- the place of server i in the chain
abbrev pub role_at : Look → ℕ → Role
role_at look i = role_of (gone_by look.answers) (servers_of look) i

-- what one of the servers said of itself, if there is one
abbrev pub report_of : Look → Option ℕ → Option ServerReport
report_of look None = None
report_of look (Some i) = report_at look.answers i

-- what the tail said of itself
abbrev pub tail_report : Look → Option ServerReport
tail_report look = report_of look (last_below (gone_by look.answers) (servers_of look))

-- how far a commit number is behind the tail's
abbrev pub behind_by : Option ServerReport → Option ServerReport → Option ℕ
behind_by None tail = None
behind_by (Some own) None = None
behind_by (Some own) (Some tail) = Some (tail.committed - own.committed)

abbrev pub behind_at : Look → ℕ → Option ℕ
behind_at look i = behind_by (report_at look.answers i) (tail_report look)

-- how many calls a second there were between two reports, so many nanoseconds apart
abbrev pub rates_by : Option ServerReport → Option ServerReport → ℕ → Option Rates
rates_by None after nanoseconds = None
rates_by (Some before) None nanoseconds = None
rates_by (Some before) (Some after) nanoseconds = rates_between before after nanoseconds

-- those of server i between two looks, of which the second one has to be later
abbrev pub rates_at : Look → Look → ℕ → Option Rates
rates_at earlier look i =
    if nat_le look.time earlier.time then None
    else rates_by (report_at earlier.answers i) (report_at look.answers i) (look.time - earlier.time)
