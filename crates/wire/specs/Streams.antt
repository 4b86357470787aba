-- What a reader of frames holds, what each of its calls makes of it, and the frames of whole streams.
use Rattle.std.specs.Prelude.{◌≡◌, ℕ, zero, suc, Bool, true, false, List, [], ◌∷◌, ◌++◌, length, Option, None, Some, Ok}
use Rattle.std.specs.Prelude.{Err, if◌then◌else◌}
use Rattle.wire.specs.declared.fields.Stop.TheVariants.{Short, Malformed, Old}
use Rattle.wire.specs.declared.frames.Frame.{Frame}
use Rattle.wire.specs.Fronts.{Read, front}

-- the bytes that no frame has taken yet, and whether a bad front or an older server was met
pub record Held : Type 0 where
  pub unread : List ℕ
  pub closed : Bool

-- at first: nothing
abbrev pub fresh : Held
fresh = record { unread = []; closed = false }

-- more bytes; a closed reader takes none
abbrev pub fed : Held → List ℕ → Held
fed h piece = if h.closed then h else record h { unread = h.unread ++ piece }

-- the frame that was read, or none, and what is held then
abbrev pub taken : Held → Read Frame → Option Frame × Held
taken h (Ok found) = (Some found.0, record h { unread = found.1 })
taken h (Err (Short more)) = (None, h)
taken h (Err Malformed) = (None, record h { closed = true })
taken h (Err Old) = (None, record h { closed = true })

-- the frame at the front, or none, and what is held then
abbrev pub next_of : Held → Option Frame × Held
next_of h = taken h (front h.unread)

-- if bytes are missing, the front isn't whole, and what it waits for is as many bytes
abbrev pub IsMissing : ℕ → List ℕ → Type 0
IsMissing zero bytes = Unit {0}
IsMissing (suc k) bytes = front bytes ≡ Err (Short (suc k))

-- what may be done with a reader
pub data ReaderCall : Type 0 where
  Feed : (piece : List ℕ) → ReaderCall
  Next : ReaderCall

-- a frame that was given, in front of others
abbrev pub with_frame : Option Frame → List Frame → List Frame
with_frame None frames = frames
with_frame (Some f) frames = f ∷ frames

-- the frames that a reader gives along these calls, and what it holds in the end
abbrev pub driven : Held → List ReaderCall → List Frame × Held
driven h [] = ([], h)
driven h (Feed piece ∷ reader_calls) = driven (fed h piece) reader_calls
driven h (Next ∷ reader_calls) =
    let given = next_of h in let rest = driven given.1 reader_calls in (with_frame given.0 rest.0, rest.1)

-- the bytes that these calls feed, as one stream
abbrev pub stream_of : List ReaderCall → List ℕ
stream_of [] = []
stream_of (Feed piece ∷ reader_calls) = piece ++ stream_of reader_calls
stream_of (Next ∷ reader_calls) = stream_of reader_calls

-- a frame at the front, and those after it
abbrev pub and_later : Read Frame → (List ℕ → List Frame) → List Frame
and_later (Ok found) later = found.0 ∷ later found.1
and_later (Err stop) later = []

-- the frames that follow one another from the front, at most n of them
abbrev pub frames_upto : ℕ → List ℕ → List Frame
frames_upto zero bytes = []
frames_upto (suc k) bytes = and_later (front bytes) (frames_upto k)

-- the frames of a stream: each takes a byte at least
abbrev pub frames_in : List ℕ → List Frame
frames_in bytes = frames_upto (length bytes) bytes
