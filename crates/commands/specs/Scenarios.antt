-- What a scenario shows of the schedule that it read.
use Rattle.std.specs.Prelude.{◌≡◌, ◌⊎◌, ◌++◌, ℕ, List, Bool, true, Ok, Err}
use Rattle.schedules.specs.Schedules.{ScheduleShown, schedule_of}
use Rattle.world.specs.Worlds.{run_of}
use Rattle.world.specs.Transcripts.{transcript_of}
use Rattle.schedules.specs.Printing.{transcript_text}
use Rattle.ends.specs.Ends.{WritesBeginning}
use Rattle.commands.specs.declared.faults.ScenarioFault.{ScenarioFault}
use Rattle.commands.specs.declared.faults.ScenarioFault.TheVariants.{Memory, Unreadable, BadLine, Run}

-- done, a fault of the schedule or the output, or out of memory
abbrev pub IsScenarioStatus : ℕ → Type 0
IsScenarioStatus n = (n ≡ 0) ⊎ ((n ≡ 1) ⊎ (n ≡ 3))

-- the text is a schedule, and these bytes are the text of what its run shows
abbrev pub Replays : List ℕ → List ℕ → Type 0
Replays text shown =
    (s : ScheduleShown) × (schedule_of text ≡ Ok s) ×
    (shown ≡ transcript_text (transcript_of (run_of s.count s.homes s.events)))

-- what the source had given, and the sink had been written, before and after:
-- a schedule was read from the source, and the text of its transcript was written to the sink
abbrev pub Shows : List ℕ → List ℕ → List ℕ → List ℕ → Type 0
Shows given_before given_after written_before written_after =
    (text : List ℕ) × (shown : List ℕ) × Replays text shown ×
    (given_after ≡ given_before ++ text) × (written_after ≡ written_before ++ shown)

-- the same, of which a beginning was written
abbrev pub ShowsBeginning : List ℕ → List ℕ → List ℕ → List ℕ → Type 0
ShowsBeginning given_before given_after written_before written_after =
    (text : List ℕ) × (shown : List ℕ) × Replays text shown ×
    (given_after ≡ given_before ++ text) × WritesBeginning written_before written_after shown

-- a fault that names a line names the text's first bad line
abbrev pub NamesLine : List ℕ → ScenarioFault → Type 0
NamesLine text Memory = Unit {0}
NamesLine text Unreadable = Unit {0}
NamesLine text (BadLine number) = schedule_of text ≡ Err number
NamesLine text Run = Unit {0}

-- the same of the text that was read from the source, whose input has ended then
abbrev pub NamesLineOf : List ℕ → List ℕ → Bool → ScenarioFault → Type 0
NamesLineOf given_before given_after has_ended Memory = Unit {0}
NamesLineOf given_before given_after has_ended Unreadable = Unit {0}
NamesLineOf given_before given_after has_ended (BadLine number) =
    (text : List ℕ) × (given_after ≡ given_before ++ text) × (has_ended ≡ true) × (schedule_of text ≡ Err number)
NamesLineOf given_before given_after has_ended Run = Unit {0}
