-- The text of a trace (docs/FORMATS.md, "Trace").
use Rattle.std.specs.Prelude.{ℕ, min, List, [], ◌++◌, length, flat_map, zip, Option, None, Some, codes}
use Rattle.world.specs.declared.events.Event.{Event}
use Rattle.world.specs.declared.event_effects.EventEffect.{EventEffect}
use Rattle.world.specs.EventEffects.{TraceShown}
use Rattle.world.specs.Transcripts.{transcript_of}
use Rattle.schedules.specs.Printing.{transcript_text}
use Rattle.traces.specs.EventLines.{event_line}
use Rattle.traces.specs.EventEffects.{event_effect_lines}
use Rattle.traces.specs.Ends.{end_text}

-- the block of an event and its effect in a chain of n servers: the event's line, and the lines of what it did
unfoldable pub block : ℕ → Event × EventEffect → List ℕ
block count p = event_line p.0 ++ codes "\n" ++ event_effect_lines count p.0 p.1

-- the blocks of events, each with the effect that has its place, in order
unfoldable pub blocks : ℕ → List Event → List EventEffect → List ℕ
blocks count events event_effects = flat_map (block count) (zip events event_effects)

-- the block of an event and its effect, if both are there
unfoldable pub block_at : ℕ → Option Event → Option EventEffect → List ℕ
block_at count None event_effect = []
block_at count (Some event) None = []
block_at count (Some event) (Some event_effect) = block count (event, event_effect)

-- how many servers a chain has, at most 16
abbrev pub chain_count : ℕ → ℕ
chain_count servers = min servers 16

-- the whole text: each event's block, in order; how the run ends; and its transcript
unfoldable pub trace_text : List Event → TraceShown → List ℕ
trace_text events t =
    blocks (chain_count (length t.world.servers)) events t.event_effects ++ end_text t.world
    ++ transcript_text (transcript_of t.world)
