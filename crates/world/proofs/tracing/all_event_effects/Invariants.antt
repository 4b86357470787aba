use Rattle.std.proofs.Common.{◌≡◌, drop, ◌++◌}
use Rattle.world.specs.Worlds.{run_from}
use Rattle.world.specs.EventEffects.{event_effects_from}
use Rattle.world.proofs.tracing.all_event_effects.Given as goal

-- running the events that are left, from the world so far, is running all; and so with their effects
abbrev pub invariant-loop-event : goal.invariant-loop-event
invariant-loop-event l = record {
  world : run_from l.initial.world l.events ≡ run_from l.world (drop l.event-index l.events);
  event_effects : event_effects_from l.initial.world l.events ≡ l.event_effects.items
      ++ event_effects_from l.world (drop l.event-index l.events);
}
