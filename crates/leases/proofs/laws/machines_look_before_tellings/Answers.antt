use Rattle.leases.proofs.Runs.{look_of_run, notice_of_run}
use Rattle.leases.proofs.Served.{run_of_served}
use Rattle.leases.proofs.laws.machines_look_before_tellings.Goals as goal

pub returns : goal.returns
returns c pair term other clock first w doings whole notice timed_orders look sound falls pace called served answers =
    look_of_run pair term clock notice timed_orders look sound falls pace
    (notice_of_run pair term clock first w doings whole notice falls called)
    (run_of_served pair term other notice timed_orders served) answers.after answers.held
