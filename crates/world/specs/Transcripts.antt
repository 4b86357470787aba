-- Transcripts, with lists in place of vectors.
use Rattle.std.specs.Prelude.{ℕ, Bool, List, [], ◌∷◌, map, None, Some}
use Rattle.table.specs.declared.operations.Call.{Call}
use Rattle.table.specs.declared.operations.Reply.{Reply}
use Rattle.world.specs.declared.transcripts.CallTranscript.{CallTranscript}
use Rattle.world.specs.Connections.{Connection}
use Rattle.world.specs.Worlds.{World}
use Rattle.world.specs.Quiet.{is_quiet}

-- a connection: its home, its begun calls, and the bytes that it was sent
pub record ConnectionShown : Type 0 where
  pub home : ℕ
  pub calls : List CallTranscript
  pub sent : List ℕ

-- what a run shows: its connections, and whether nothing waits
pub record TranscriptShown : Type 0 where
  pub connections : List ConnectionShown
  pub quiet : Bool

-- the calls with the replies to the first of them; a reply that still waits counts as none
abbrev pub calls_shown : List Call → List Reply → List CallTranscript
calls_shown [] replies = []
calls_shown (call ∷ calls) [] = record { target = call.target; op = call.op; reply = None } ∷ calls_shown calls []
calls_shown (call ∷ calls) (reply ∷ replies) =
    record { target = call.target; op = call.op; reply = Some reply } ∷ calls_shown calls replies

-- a connection's home, its begun calls with their replies, and the bytes that it was sent
abbrev pub connection_shown : Connection → ConnectionShown
connection_shown k = record { home = k.home; calls = calls_shown k.calls k.replies; sent = k.session.out }

-- what a world shows
abbrev pub transcript_of : World → TranscriptShown
transcript_of w = record { connections = map connection_shown w.connections; quiet = is_quiet w }
