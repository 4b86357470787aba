-- What a scenario shows, and what is told of a schedule, is what the program may write.
use Rattle.std.proofs.Common.{◌≡◌, ℕ, List, ◌++◌, refl}
use Rattle.std.specs.Prelude.{Ok}
use Rattle.command_line.specs.declared.commands.Print.TheVariants.{Scenario, Version}
use Rattle.ends.specs.Ends.{WritesBeginning}
use Rattle.commands.specs.Programs.{BeginsOutput, WritesOutput, version_line}
use Rattle.commands.specs.Scenarios.{Shows, ShowsBeginning}
use Rattle.commands.specs.Tellings.{BeginsTelling, TellsBeginning}
use Rattle.command_line.specs.declared.commands.Telling.{Telling}

-- what a scenario wrote
pub shows-output : (file : _) (given_before given_after before after : List ℕ)
    → Shows given_before given_after before after
    → WritesOutput (Ok (Scenario file)) before after
shows-output file given_before given_after before after (text, shown, replays, given, written) =
    (shown, (text, replays), written)

-- what a scenario wrote before a write failed
pub shows-beginning : (file : _) (given_before given_after before after : List ℕ)
    → ShowsBeginning given_before given_after before after
    → BeginsOutput (Ok (Scenario file)) before after
shows-beginning file given_before given_after before after (text, shown, replays, given, begun) =
    (shown, (text, replays), begun)

-- the version's line
pub version-output : (before after : List ℕ)
    → after ≡ before ++ version_line
    → WritesOutput (Ok Version) before after
version-output before after written = (version_line, refl, written)

-- a beginning of the version's line
pub version-beginning : (before after : List ℕ)
    → WritesBeginning before after version_line
    → BeginsOutput (Ok Version) before after
version-beginning before after begun = (version_line, refl, begun)

-- what was told of a schedule before a write failed
pub telling-beginning : (telling : Telling) (given_before given_after before after : List ℕ)
    → TellsBeginning telling given_before given_after before after
    → BeginsTelling telling before after
telling-beginning telling given_before given_after before after (text, shown, told, given, begun) =
    (text, shown, told, begun)
