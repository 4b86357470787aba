-- How many calls a second there were between two looks (this project's rule).
use Rattle.std.specs.Prelude.{ℕ, ◌-◌, ◌*◌, ◌/◌, ◌^◌, nat_eq, Option, Some, None, if◌then◌else◌, min, max}
use Rattle.chain_status.specs.declared.reports.ServerReport.{ServerReport}
use Rattle.chain_status.specs.declared.rates.Rates.{Rates}

-- what a counter grew by in a second, if it grew so in these nanoseconds
abbrev pub per_second : ℕ → ℕ → ℕ → ℕ
per_second before after nanoseconds = min (((after - before) * 1000000000) / max nanoseconds 1) (2 ^ 64 - 1)

-- those of the calls that a server answered between two reports, which have to be of one start
abbrev pub rates_between : ServerReport → ServerReport → ℕ → Option Rates
rates_between before after nanoseconds =
    if nat_eq before.start after.start
    then Some (record {
      clean_reads = per_second before.calls.clean_reads after.calls.clean_reads nanoseconds;
      dirty_reads = per_second before.calls.dirty_reads after.calls.dirty_reads nanoseconds;
      updates = per_second before.calls.updates after.calls.updates nanoseconds;
    })
    else None
