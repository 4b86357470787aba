-- The workers of the servers of one process.
use Rattle.std.specs.Prelude.{ℕ, List, map}
use Rattle.rail.specs.declared.links.Links as links
use Rattle.craq_process.specs.declared.scheduled_links.ScheduledLinks as scheduled_links
use Rattle.craq_process.specs.declared.schedulers.Scheduler.{Scheduler}

module _ {R L : Type 0} {s : scheduled_links.Ghosts L} {l : links.Ghosts L} (scheduler : Scheduler R L s l) where
  -- the servers whose workers stand there, in order
  abbrev pub ids : List ℕ
  ids = map (λ run_slot. run_slot.id) scheduler.run_slots.items
