-- What is told of a server's step.
use Rattle.std.proofs.Common.{◌≡◌, ℕ, ◌<◌, List, length, refl}
use Rattle.std.specs.Prelude.{slice_set, slice_index_or}
use Rattle.std.proofs.lemmas.List.{get_or-set_same}
use Rattle.versions.specs.Entries.{LogEntry}
use Rattle.node.specs.declared.messages.Input.{Input}
use Rattle.node.specs.declared.messages.Output.{Output}
use Rattle.node.specs.declared.standings.Standing.{Standing}
use Rattle.node.specs.Servers.{ServerState}
use Rattle.node.specs.Standings.{standing, entries_by}
use Rattle.node.specs.Steps.{step}
use Rattle.world.specs.ServerSteps.{step_shown}
use Rattle.world.specs.Worlds.{nobody}

-- a server that was written back is the one that is read
pub stepped_at : (ss : List ServerState) (i : ℕ) (s : ServerState)
    → i < length ss
    → slice_index_or (slice_set ss i s) i nobody ≡ s
stepped_at ss i s within = get_or-set_same ss i s nobody within

-- what is told of a step, part by part
pub told_is : (s : ServerState) (input kept : Input) (before : Standing) (entries : List LogEntry)
    (outputs : List Output)
    (after : Standing) → kept ≡ input → before ≡ standing s → entries ≡ entries_by s input → outputs
    ≡ (step s input).outputs
    → after ≡ standing (step s input).state
    → record { input = kept; before = before; entries = entries; outputs = outputs; after = after } ≡ step_shown s input
told_is s input kept before entries outputs after k b e o a = rw (k, b, e, o, a) refl
