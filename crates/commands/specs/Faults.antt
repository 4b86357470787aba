-- The faults of a scenario: their exit statuses, their lines, and the faults that they come from.
use Rattle.std.specs.Prelude.{◌≡◌, ◌⊎◌, ℕ, ◌+◌, List, ◌++◌, codes, decimal}
use Rattle.ends.specs.Ends.{WritesBeginning}
use Rattle.commands.specs.declared.faults.ScenarioFault.{ScenarioFault}
use Rattle.commands.specs.declared.faults.ScenarioFault.TheVariants.{Memory, Unreadable, BadLine, Run}
use Rattle.ends.specs.declared.reading.ReadFault.{ReadFault}
use Rattle.ends.specs.declared.reading.ReadFault.TheVariants as reading
use Rattle.schedules.specs.declared.schedules.ScheduleFault.{ScheduleFault}
use Rattle.schedules.specs.declared.schedules.ScheduleFault.TheVariants as schedules
use Rattle.world.specs.declared.faults.SceneFault.{SceneFault}
use Rattle.world.specs.declared.faults.SceneFault.TheVariants as scenes

-- the exit status: 3 if memory is out, else 1
abbrev pub status_of : ScenarioFault → ℕ
status_of Memory = 3
status_of Unreadable = 1
status_of (BadLine number) = 1
status_of Run = 1

-- the line that tells the fault, with the name of the schedule's file
abbrev pub line_of : List ℕ → ScenarioFault → List ℕ
line_of name Memory = codes "craq: out of memory\n"
line_of name Unreadable = codes "craq: cannot read " ++ name ++ codes "\n"
line_of name (BadLine number) = codes "craq: line " ++ decimal number ++ codes ": bad schedule line\n"
line_of name Run = codes "craq: run failed\n"

-- the fault's line was written to the errors; or a write to them failed, and a beginning of the line was written
abbrev pub IsTold : List ℕ → ScenarioFault → ℕ → ℕ → List ℕ → List ℕ → Type 0
IsTold name fault failed_before failed_after before after =
    ((failed_after ≡ failed_before) × (after ≡ before ++ line_of name fault))
    ⊎ ((failed_after ≡ failed_before + 1) × WritesBeginning before after (line_of name fault))

-- the fault of a source that wasn't read
abbrev pub of_reading : ReadFault → ScenarioFault
of_reading reading.Memory = Memory
of_reading reading.Read = Unreadable

-- the fault of a text that gives no schedule
abbrev pub of_schedule : ScheduleFault → ScenarioFault
of_schedule schedules.Memory = Memory
of_schedule (schedules.BadLine number) = BadLine number

-- the fault of a schedule that wasn't run to its end
abbrev pub of_scene : SceneFault → ScenarioFault
of_scene scenes.Memory = Memory
of_scene scenes.BadCount = Run
of_scene scenes.BadHomes = Run
of_scene scenes.Spoiled = Run
