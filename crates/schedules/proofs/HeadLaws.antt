-- A schedule that a text spells can be run: its servers and its homes are in range.
use Rattle.std.proofs.Common.{◌≡◌, ℕ, true, List, length}
use Rattle.std.proofs.lemmas.Bool.{and_from, le-leb}
use Rattle.world.specs.Scenes.{are_homes, is_count}
use Rattle.schedules.specs.Schedules.{ScheduleShown}
use Rattle.schedules.specs.SpelledSchedules.{SpellsSchedule}

-- of a text that spells a schedule, the count of servers and the homes are in range
pub can_run : (text : List ℕ) (s : ScheduleShown)
    → SpellsSchedule text s
    → (is_count s.count ≡ true) × (are_homes s.count s.homes ≡ true)
can_run text s h = (
  and_from _ _ (le-leb 1 s.count h.servers.0) (le-leb s.count 16 h.servers.1),
  and_from _ _ (le-leb (length s.homes) 64 h.homes.few) h.homes.each,
)
