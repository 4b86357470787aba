-- The request at the front of a stream, as a function: what its line asks for, and whether its block has come.
use Rattle.std.specs.Prelude.{◌≡◌, ℕ, ◌+◌, ◌-◌, ◌^◌, ◌≤◌, ◌<◌, Bool, true, false, IsTrue, nat_lt, List, length, Option}
use Rattle.std.specs.Prelude.{None, Some, if◌then◌else◌}
use Rattle.std.specs.List.{slice_range}
use Rattle.std.specs.Str.{bytes_eq}
use Rattle.table.specs.Items.{limit}
use Rattle.table.specs.Operations.{Fits, is_flush, is_update}
use Rattle.table.specs.declared.operations.Op.{Op}
use Rattle.proto.specs.Words.{crlf}
use Rattle.proto.specs.Verbs.{op_of}
use Rattle.proto.specs.declared.requests.Fault.TheVariants.{DataChunk, LineTooLong}
use Rattle.proto.specs.declared.requests.Request.{Request}
use Rattle.proto.specs.declared.requests.Request.TheVariants.{Store, Get, Arith, Delete, Flush, Quit, Bad}
use Rattle.proto.specs.declared.lines.Asked.{Asked}
use Rattle.proto.specs.declared.lines.Asked.TheVariants.{Whole, Behind}
use Rattle.proto.specs.declared.storage.Fate.{Fate}
use Rattle.proto.specs.declared.storage.Fate.TheVariants.{Put, Refuse}
use Rattle.proto.specs.declared.front.Pending.{Pending}
use Rattle.proto.specs.declared.skipped_blocks.SkippedBlock.{SkippedBlock}
use Rattle.proto.specs.declared.front.Found.{Found}
use Rattle.proto.specs.declared.front.Found.TheVariants.{Request as Requested, Refused, Nothing}
use Rattle.proto.specs.Requests.{asked_at}

-- a request at the front of a stream, and how many bytes spell it
abbrev pub Front : Type 0
Front = Option (Request × ℕ)

-- the request of a whole block, with the two bytes after it: data is to be followed by CR LF
abbrev pub finished : Fate → List ℕ → List ℕ → Request
finished (Refuse fault) block ends = Bad fault
finished (Put key verb silent) block ends =
    if bytes_eq ends crlf then Store key (op_of verb block) silent else Bad DataChunk

-- the request that a line of n bytes begins, if all of it has come
abbrev pub completed : List ℕ → Asked → ℕ → Front
completed bytes (Whole request) n = Some (request, n)
completed bytes (Behind block) n =
    if nat_lt (length bytes) (n + block.size + 2) then None
    else Some (
      finished block.fate (slice_range bytes n (n + block.size))
          (slice_range bytes (n + block.size) (n + block.size + 2)),
      n + block.size + 2,
    )

-- the request that the line at the front begins, if both have come
abbrev pub by_asked : List ℕ → Option (Asked × ℕ) → Front
by_asked bytes None = None
by_asked bytes (Some line) = completed bytes line.0 line.1

-- the request at the front of a stream, if one is whole
abbrev pub front : List ℕ → Front
front bytes = by_asked bytes (asked_at bytes)

-- a refused block, and how many bytes of it have still to come
abbrev pub refused_by : Fate → ℕ → Option SkippedBlock
refused_by (Refuse fault) left = Some (record { fault = fault; left = left })
refused_by (Put key verb silent) left = None

-- the refused block that a line of n bytes announces: it ends two bytes after its data
abbrev pub refused_behind : List ℕ → Asked → ℕ → Option SkippedBlock
refused_behind bytes (Whole request) n = None
refused_behind bytes (Behind block) n = refused_by block.fate (n + block.size + 2 - length bytes)

-- the same, if the line has come
abbrev pub refused_by_asked : List ℕ → Option (Asked × ℕ) → Option SkippedBlock
refused_by_asked bytes None = None
refused_by_asked bytes (Some line) = refused_behind bytes line.0 line.1

-- the refused block that the line at the front announces, if it does
abbrev pub refused_at : List ℕ → Option SkippedBlock
refused_at bytes = refused_by_asked bytes (asked_at bytes)

-- a whole request stands before all else
abbrev pub found_of : Front → Option SkippedBlock → Found
found_of (Some front) refused = Requested front.0 front.1
found_of None (Some skipped_block) = Refused skipped_block
found_of None None = Nothing

-- what is at the front of a stream: a complete request, an incomplete refused block, or neither
abbrev pub found_at : List ℕ → Found
found_at bytes = found_of (front bytes) (refused_at bytes)

-- after it the stream has no more requests (this project's rule)
abbrev pub is_last : Request → Bool
is_last Quit = true
is_last (Bad LineTooLong) = true
is_last request = false

-- an update of one key, whose data is within the limit
pub record IsKeyUpdate (op : Op) : Type 0 where
  pub fits : Fits op
  pub update : IsTrue (is_update op)
  pub one_key : is_flush op ≡ false

-- a get has a key at least, and an update is one
abbrev pub IsWhole : Request → Type 0
IsWhole (Store key op silent) = IsKeyUpdate op
IsWhole (Get keys unique) = 1 ≤ length keys
IsWhole (Arith key op silent) = IsKeyUpdate op
IsWhole (Delete key silent) = Unit {0}
IsWhole (Flush silent) = Unit {0}
IsWhole Quit = Unit {0}
IsWhole (Bad fault) = Unit {0}

-- a block that is to be put is within the limit
abbrev pub IsWithin : Fate → ℕ → Type 0
IsWithin (Put key verb silent) size = size ≤ limit
IsWithin (Refuse fault) size = size < 2 ^ 32

-- what a line asks for keeps these bounds
abbrev pub IsSound : Asked → Type 0
IsSound (Whole request) = IsWhole request
IsSound (Behind block) = IsWithin block.fate block.size

-- what stands at the front is a whole request, within the bytes
abbrev pub IsFront : Found → List ℕ → Type 0
IsFront (Requested request n) bytes = (n ≤ length bytes) × IsWhole request
IsFront (Refused skipped_block) bytes = Unit {0}
IsFront Nothing bytes = Unit {0}

-- (This serves a hidden field of the code; no public contract needs it.) What was found out about the front is so: the
-- line announces a block that is to be put.
abbrev pub IsKnown : Option Pending → List ℕ → Type 0
IsKnown None bytes = Unit {0}
IsKnown (Some p) bytes =
    (asked_at bytes ≡ Some (Behind (record { size = p.size; fate = Put p.key p.verb p.silent }), p.line))
    × (p.line ≤ length bytes) × (p.size ≤ limit)
