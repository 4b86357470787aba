-- What came of asking the servers of a chain (this project's rule).
use Rattle.std.specs.Prelude.{ℕ, nat_eq, not, List, Option, Some, None, fold, bit_or, slice_get}
use Rattle.std.specs.Prelude.{if◌then◌else◌}
use Rattle.std.specs.Option.{option_and_then}
use Rattle.chain_status.specs.declared.reports.ServerReport.{ServerReport}
use Rattle.chain_status.specs.declared.answers.NoConnection.{NoConnection}
use Rattle.chain_status.specs.declared.answers.Stranger.{Stranger}
use Rattle.chain_status.specs.declared.answers.Stranger.TheVariants.{OtherNumber, OtherServer}
use Rattle.chain_status.specs.declared.answers.ServerAnswer.{ServerAnswer}
use Rattle.chain_status.specs.declared.answers.ServerAnswer.TheVariants as answer

-- a report counts only if it is of the server that was asked
abbrev pub answer_by : ℕ → ℕ → ServerReport → ServerAnswer
answer_by asked servers report =
    if not (nat_eq report.servers servers) then answer.Stranger OtherNumber
    else if not (nat_eq report.id asked) then answer.Stranger (OtherServer report.id)
    else answer.Reported report

-- what a server said of itself
abbrev pub report_in : ServerAnswer → Option ServerReport
report_in (answer.Reported report) = Some report
report_in (answer.NoConnection why) = None
report_in (answer.Stranger why) = None
report_in answer.NoAnswer = None

-- those that it knows to be gone
abbrev pub view_in : ServerAnswer → ℕ
view_in (answer.Reported report) = report.view
view_in (answer.NoConnection why) = 0
view_in (answer.Stranger why) = 0
view_in answer.NoAnswer = 0

-- what server i said of itself
abbrev pub report_at : List ServerAnswer → ℕ → Option ServerReport
report_at answers i = option_and_then report_in (slice_get answers i)

-- Those that are gone: whom any server knows to be gone. Such a notice is never taken back, and reaches all.
abbrev pub gone_by : List ServerAnswer → ℕ
gone_by answers = fold (λ gone answer. bit_or gone (view_in answer)) 0 answers
