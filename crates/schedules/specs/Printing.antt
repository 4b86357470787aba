-- The text of a transcript (the format is this project's).
use Rattle.std.specs.Prelude.{ℕ, ◌+◌, Bool, List, [], ◌∷◌, ◌++◌, length, is_some, count_by, flat_map, decimal}
use Rattle.std.specs.Prelude.{if◌then◌else◌, codes}
use Rattle.world.specs.declared.transcripts.CallTranscript.{CallTranscript}
use Rattle.schedules.specs.Splits.{lf, parts}
use Rattle.schedules.specs.Escapes.{escape}
use Rattle.world.specs.Transcripts.{ConnectionShown, TranscriptShown}

-- how many calls have a reply
abbrev pub answered : List CallTranscript → ℕ
answered calls = count_by (λ call. is_some call.reply) calls

-- a label and a number
unfoldable pub labelled : List ℕ → ℕ → List ℕ
labelled label number = label ++ decimal number

-- `connection C server H begun B answered A`
abbrev pub connection_line : ℕ → ConnectionShown → List ℕ
connection_line number k =
    labelled (codes "connection ") number ++ labelled (codes " server ") k.home ++ labelled (codes " begun ")
    (length k.calls)
    ++ labelled (codes " answered ") (answered k.calls) ++ lf ∷ []

-- a part of what was sent, escaped, as a line
abbrev pub part_line : List ℕ → List ℕ
part_line part = codes "| " ++ flat_map escape part ++ lf ∷ []

-- what was sent, split after each LF, a line for each part
abbrev pub sent_text : List ℕ → List ℕ
sent_text sent = flat_map part_line (parts sent)

-- a connection's line and what it was sent
abbrev pub connection_text : ℕ → ConnectionShown → List ℕ
connection_text number k = connection_line number k ++ sent_text k.sent

-- those of connections, of which the first has this number
abbrev pub connections_text : ℕ → List ConnectionShown → List ℕ
connections_text number [] = []
connections_text number (k ∷ ks) = connection_text number k ++ connections_text (number + 1) ks

-- the last line
abbrev pub quiet_line : Bool → List ℕ
quiet_line quiet = if quiet then codes "quiet\n" else codes "not quiet\n"

-- each connection's text in order, and whether the world is quiet
abbrev pub transcript_text : TranscriptShown → List ℕ
transcript_text t = connections_text 0 t.connections ++ quiet_line t.quiet
