-- What is told of a schedule's text.
use Rattle.std.specs.Prelude.{◌≡◌, ◌++◌, ℕ, List, Ok}
use Rattle.command_line.specs.declared.commands.Telling.{Telling}
use Rattle.command_line.specs.declared.commands.Telling.TheVariants.{Trace, Draw}
use Rattle.ends.specs.Ends.{WritesBeginning}
use Rattle.schedules.specs.Schedules.{ScheduleShown, schedule_of}
use Rattle.world.specs.EventEffects.{trace_of}
use Rattle.traces.specs.Arrows.{arrows_of}
use Rattle.traces.specs.Pictures.{Draws}
use Rattle.traces.specs.Printing.{trace_text}

-- the text is a schedule, and these bytes are the text of the trace of its run
abbrev pub Traces : List ℕ → List ℕ → Type 0
Traces text shown =
    (s : ScheduleShown) × (schedule_of text ≡ Ok s) × (shown ≡ trace_text s.events (trace_of s.count s.homes s.events))

-- the text is a schedule, and these bytes are a picture of its run, with exactly the arrows of its trace
abbrev pub Pictures : List ℕ → List ℕ → Type 0
Pictures text shown =
    (s : ScheduleShown) × (schedule_of text ≡ Ok s)
    × Draws (arrows_of s.homes s.events (trace_of s.count s.homes s.events)) shown

-- the one or the other, as was asked for
abbrev pub Tells : Telling → List ℕ → List ℕ → Type 0
Tells Trace text shown = Traces text shown
Tells Draw text shown = Pictures text shown

-- what the source had given, and the sink had been written, before and after:
-- a schedule was read from the source, and what is told of it was written to the sink
abbrev pub TellsAll : Telling → List ℕ → List ℕ → List ℕ → List ℕ → Type 0
TellsAll telling given_before given_after written_before written_after =
    (text : List ℕ) × (shown : List ℕ) × Tells telling text shown ×
    (given_after ≡ given_before ++ text) × (written_after ≡ written_before ++ shown)

-- the same, of which a beginning was written
abbrev pub TellsBeginning : Telling → List ℕ → List ℕ → List ℕ → List ℕ → Type 0
TellsBeginning telling given_before given_after written_before written_after =
    (text : List ℕ) × (shown : List ℕ) × Tells telling text shown ×
    (given_after ≡ given_before ++ text) × WritesBeginning written_before written_after shown

-- what is told of some schedule was written
abbrev pub WritesTelling : Telling → List ℕ → List ℕ → Type 0
WritesTelling telling before after =
    (text : List ℕ) × (shown : List ℕ) × Tells telling text shown × (after ≡ before ++ shown)

-- a beginning of it was written, and nothing else
abbrev pub BeginsTelling : Telling → List ℕ → List ℕ → Type 0
BeginsTelling telling before after =
    (text : List ℕ) × (shown : List ℕ) × Tells telling text shown × WritesBeginning before after shown
