-- What a master that watches has for leases (this project's rule).
use Rattle.std.specs.Prelude.{ℕ, zero, suc, ◌*◌, nat_le, Bool, false, not, ◌&&◌, Option, None, Some, if◌then◌else◌}
use Rattle.leases.specs.MasterMachines.{MasterMachineState, epoch_taken, given_up}
use Rattle.node.specs.Views.{View}
use Rattle.master_decisions.specs.declared.attendance.Attendance.{Attendance}
use Rattle.master_decisions.specs.declared.beats.Beats.{Beats}
use Rattle.master_decisions.specs.Attendance.{attended, begun}
use Rattle.master_decisions.specs.ServerSets.{is_among}

-- each of these servers below the count does nothing more
abbrev pub all_given_up : View → ℕ → MasterMachineState → MasterMachineState
all_given_up gone zero m = m
all_given_up gone (suc i) m = if is_among gone i then given_up (all_given_up gone i m) i else all_given_up gone i m

-- a server told that it is in this epoch; if the master was followed it has none any more
abbrev pub reported : Attendance → ℕ → ℕ → ℕ → Bool → Attendance
reported a i epoch now is_followed = attended (if is_followed then begun a 0 now else a) i epoch now

-- how long the lease of a server runs, if it has one and that wasn't told yet
abbrev pub new_lease : View → ℕ → Option ℕ → Option ℕ
new_lease leased i None = None
new_lease leased i (Some term) = if is_among leased i then None else Some term

-- whose answers don't count any more if this one is to be called gone: its own, if it has a lease and answers
abbrev pub to_leave : View → View → Option ℕ → Option ℕ
to_leave leased heard None = None
to_leave leased heard (Some j) = if is_among leased j && is_among heard j then Some j else None

-- it isn't longer than two beats, and that wasn't told yet
abbrev pub is_short : ℕ → View → ℕ → Option ℕ → Bool
is_short beat short i None = false
is_short beat short i (Some term) = nat_le term (2 * beat) && not (is_among short i)

-- the master has taken this epoch
abbrev pub claimed : Beats → ℕ → ℕ → Beats
claimed b epoch now = record b {
  master_machine = epoch_taken b.master_machine epoch now;
  told = 0;
  attendance = begun b.attendance epoch now;
}
