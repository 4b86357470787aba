-- The format of frames, field by field, and what may stand at the front of a stream (this project's rule).
use Rattle.std.specs.Prelude.{◌≡◌, ℕ, Bool, true, ◌&&◌, nat_le, nat_lt, ◌==◌, List, ◌∷◌, ◌++◌}
use Rattle.std.specs.Int.{w16, w32, w64}
use Rattle.table.specs.Items.{limit}
use Rattle.table.specs.Keys.{is_key_byte}
use Rattle.table.specs.Operations.{is_all}
use Rattle.table.specs.declared.operations.Target.{Target}
use Rattle.table.specs.declared.operations.Target.TheVariants.{One, All}
use Rattle.table.specs.declared.operations.Op.{Op}
use Rattle.table.specs.declared.operations.Op.TheVariants.{Set, Add, Replace, Append, Prepend, Cas, Incr, Decr, Delete}
use Rattle.table.specs.declared.operations.Op.TheVariants.{Flush}
use Rattle.table.specs.declared.operations.Reply.{Reply}
use Rattle.table.specs.declared.operations.Reply.TheVariants.{Stored, NotStored, Exists, NotFound, Deleted, Number}
use Rattle.table.specs.declared.operations.Reply.TheVariants.{TooLarge, NotNumber, Flushed}
use Rattle.table.specs.declared.operations.Change.{Change}
use Rattle.table.specs.declared.operations.Change.TheVariants.{Keep, Put, Drop, Clear}
use Rattle.node.specs.declared.messages.Body.{Body}
use Rattle.node.specs.declared.messages.Body.TheVariants as bodies
use Rattle.wire.specs.declared.frames.Frame.{Frame}
use Rattle.wire.specs.declared.frames.Frame.TheVariants.{Hello, Peer, Gone, Accepted, Refused, Noted, Reign}
use Rattle.wire.specs.declared.frames.Frame.TheVariants.{Confirmed, Stalled}
use Rattle.wire.specs.declared.frames.Frame.TheVariants as frames
use Rattle.wire.specs.declared.greetings.Reason.TheVariants as reasons
use Rattle.wire.specs.Spellings.{IsFrame, spelling}
use Rattle.wire.specs.Parts.{Part, ◌>>=◌, makes, refused, either, byte, number, bytes_of, text_of}

-- ranges of fields: any value
abbrev pub any : ℕ → Bool
any n = true

-- from 1 on
abbrev pub positive : ℕ → Bool
positive n = nat_le 1 n

-- up to a number
abbrev pub at_most : ℕ → ℕ → Bool
at_most most n = nat_le n most

-- below a number
abbrev pub below : ℕ → ℕ → Bool
below end n = nat_lt n end

-- 1 to 250
abbrev pub is_key_length : ℕ → Bool
is_key_length n = nat_le 1 n && nat_le n 250

-- 1 to 16
abbrev pub is_server_count : ℕ → Bool
is_server_count n = nat_le 1 n && nat_le n 16

-- a key: 1 byte of length, 1 to 250, and as many key bytes
abbrev pub key : Part (List ℕ)
key = do
  n ← byte is_key_length
  text_of is_key_byte n

-- a target: a key, or a length of 0 for all keys
abbrev pub target : Part Target
target = do
  n ← byte (at_most 250)
  either (n == 0) (makes All) (text_of is_key_byte n >>= λ k. makes (One k))

-- an item's data: 4 bytes of length, at most the limit, and as many bytes
abbrev pub block : Part (List ℕ)
block = do
  n ← number w32 (at_most limit)
  bytes_of n

-- flags, 4 bytes, and data
abbrev pub flagged : Part (ℕ × List ℕ)
flagged = do
  flags ← number w32 any
  bytes ← block
  makes (flags, bytes)

-- what stands after the code of an operation on one key
abbrev pub key_operation : ℕ → Part Op
key_operation code =
    either (code == 1) (flagged >>= λ x. makes (Set x.0 x.1))
    (either (code == 2) (flagged >>= λ x. makes (Add x.0 x.1))
    (either (code == 3) (flagged >>= λ x. makes (Replace x.0 x.1))
    (either (code == 4) (block >>= λ bytes. makes (Append bytes))
    (either (code == 5) (block >>= λ bytes. makes (Prepend bytes))
    (either (code == 6)
    (number w32 any >>= λ flags. number w64 any >>= λ unique. block >>= λ bytes. makes (Cas flags bytes unique))
    (either (code == 7) (number w64 any >>= λ amount. makes (Incr amount))
    (either (code == 8) (number w64 any >>= λ amount. makes (Decr amount))
    (either (code == 9) (makes Delete) refused))))))))

-- an operation on all keys is a flush, and one on a key isn't
abbrev pub operation : Bool → Part Op
operation all = do
  code ← byte any
  either all (either (code == 10) (makes Flush) refused) (key_operation code)

-- what stands after the code of a reply to an operation on one key
abbrev pub key_reply : ℕ → Part Reply
key_reply code =
    either (code == 1) (makes Stored)
    (either (code == 2) (makes NotStored)
    (either (code == 3) (makes Exists)
    (either (code == 4) (makes NotFound)
    (either (code == 5) (makes Deleted)
    (either (code == 6) (number w64 any >>= λ n. makes (Number n))
    (either (code == 8) (makes TooLarge)
    (either (code == 9) (makes NotNumber) refused)))))))

-- a reply to an operation on all keys is that they were flushed, and one on a key isn't
abbrev pub reply : Bool → Part Reply
reply all = do
  code ← byte any
  either all (either (code == 10) (makes Flushed) refused) (key_reply code)

-- what stands after the code of a change at one key, in the entry of this number
abbrev pub key_change : ℕ → ℕ → Part Change
key_change entry code =
    either (code == 0) (makes Keep)
    (either (code == 1) (flagged >>= λ x. makes (Put (record { flags = x.0; bytes = x.1; unique = entry })))
    (either (code == 2) (makes Drop) refused))

-- a change of all keys is a clear, and one of a key isn't
abbrev pub change : Bool → ℕ → Part Change
change all entry = do
  code ← byte any
  either all (either (code == 3) (makes Clear) refused) (key_change entry code)

-- an update call: its id, its target and its operation
abbrev pub op_body : Part Body
op_body = do
  id ← number w64 positive
  on ← target
  op ← operation (is_all on)
  makes (bodies.Op id (record { target = on; op = op }))

-- an entry: its number, origin, id, target, reply and change
abbrev pub forward_body : Part Body
forward_body = do
  entry ← number w64 positive
  origin ← byte (below 16)
  id ← number w64 positive
  on ← target
  told ← reply (is_all on)
  done ← change (is_all on) entry
  makes (bodies.Forward (record { number = entry; origin = origin; id = id; target = on; reply = told; change = done }))

-- a commit number
abbrev pub ack_body : Part Body
ack_body = number w64 any >>= λ n. makes (bodies.Ack n)

-- an ask for a key
abbrev pub query_body : Part Body
query_body = do
  ask ← number w64 positive
  on ← key
  makes (bodies.Query ask on)

-- an ask, and the number that answers it
abbrev pub answer_body : Part Body
answer_body = do
  ask ← number w64 positive
  n ← number w64 any
  makes (bodies.Answer ask n)

-- the body of a kind
abbrev pub body : ℕ → Part Body
body kind =
    either (kind == 1) op_body
    (either (kind == 2) forward_body
    (either (kind == 3) ack_body
    (either (kind == 4) query_body answer_body)))

-- a message from one server to another: the sender's view, and a body
abbrev pub message : ℕ → Part Frame
message kind = do
  view ← number w16 any
  says ← body kind
  makes (Peer (record { view = view; body = says }))

-- what the opener tells of its chain: its number of servers, the opener's start, and the chain
abbrev pub introduction : Part Frame
introduction = do
  servers ← byte is_server_count
  start ← number w64 any
  chain ← key
  makes (frames.Introduction (record { servers = servers; start = start; chain = chain }))

-- what the acceptor tells of itself: its start, and the servers that have failed
abbrev pub acceptance : Part Frame
acceptance = do
  start ← number w64 any
  gone ← number w16 any
  makes (Accepted (record { start = start; gone = gone }))

-- the reason of a code
abbrev pub refusal_of : ℕ → Part Frame
refusal_of code =
    either (code == 1) (makes (Refused reasons.Servers))
    (either (code == 2) (makes (Refused reasons.Chain))
    (either (code == 3) (makes (Refused reasons.Taken))
    (either (code == 4) (makes (Refused reasons.Gone))
    (either (code == 5) (makes (Refused reasons.Format)) refused))))

-- why the acceptor doesn't take a connection: a code
abbrev pub refusal : Part Frame
refusal = byte any >>= λ code. refusal_of code

-- a beat: the master's epoch, and the stamp that it brings back
abbrev pub beat : Part Frame
beat = do
  epoch ← number w64 any
  stamp ← number w64 any
  makes (frames.Beat (record { epoch = epoch; stamp = stamp }))

-- how a server is: its epoch, its stamp, its lease's end and term, who is gone, and who was while the lease held
abbrev pub alive : Part Frame
alive = do
  epoch ← number w64 any
  stamp ← number w64 any
  end ← number w64 any
  term ← number w64 any
  gone ← number w16 any
  known ← number w16 any
  makes (frames.Alive
      (record { epoch = epoch; stamp = stamp; end = end; term = term; gone = gone; known = known }))

-- a notice of silence: the master's epoch, and the server
abbrev pub silence : Part Frame
silence = do
  epoch ← number w64 any
  id ← byte (below 16)
  makes (frames.Silent (record { epoch = epoch; id = id }))

-- what stands after a kind from 15 on: 15 counts what was handed on of a link, 16 tells which links stand still
abbrev pub link : ℕ → Part Frame
link kind =
    either (kind == 15) (number w64 any >>= λ count. makes (Confirmed count))
    (either (kind == 16) (number w16 any >>= λ servers. makes (Stalled servers)) refused)

-- what stands after a kind from 11 on: 11 greets in an epoch, 12 is a beat, 13 answers both, 14 is a notice of silence,
-- and the others are of links
abbrev pub watching : ℕ → Part Frame
watching kind =
    either (kind == 11) (number w64 any >>= λ epoch. makes (Reign epoch))
    (either (kind == 12) beat
    (either (kind == 13) alive
    (either (kind == 14) silence (link kind))))

-- what stands after a kind from 7 on: 7 introduces, 8 and 9 answer that, 10 answers a notice, and the others watch
abbrev pub greeting : ℕ → Part Frame
greeting kind =
    either (kind == 7) introduction
    (either (kind == 8) acceptance
    (either (kind == 9) refusal
    (either (kind == 10) (byte (below 16) >>= λ id. makes (Noted id)) (watching kind))))

-- what stands after a kind: 0 greets, 1 to 5 are messages, 6 is a notice, and the others belong to greetings, watch or
-- are of links
abbrev pub of_kind : ℕ → Part Frame
of_kind kind =
    either (kind == 0) (byte (at_most 16) >>= λ id. makes (Hello id))
    (either (kind == 6) (byte (below 16) >>= λ id. makes (Gone id))
    (either (nat_lt 6 kind) (greeting kind) (message kind)))

-- a frame: the format's byte, the kind's, and what stands after it
abbrev pub frame : Part Frame
frame = do
  format ← byte (λ b. b == 2)
  kind ← byte any
  of_kind kind

-- an older server speaks here: its format's byte is 1
abbrev pub IsOld : List ℕ → Type 0
IsOld bytes = (rest : List ℕ) × (bytes ≡ 1 ∷ rest)

-- a bad front: a whole field is out of its range, all fields before it are in range, and no older server speaks
pub record IsMalformed (bytes : List ℕ) : Type 0 where
  pub bad : frame.Bad bytes
  pub not_old : IsOld bytes → ⊥

-- a frame stands at the front, and the rest after it
pub record IsFirst (f : Frame) (bytes rest : List ℕ) : Type 0 where
  pub in_range : IsFrame f
  pub spelled : bytes ≡ spelling f ++ rest

-- a frame stands at the front
abbrev pub HasFrame : List ℕ → Type 0
HasFrame bytes = (f : Frame) × (rest : List ℕ) × IsFirst f bytes rest

-- neither a frame stands at the front, nor a bad front, nor an older server's
pub record IsPartial (bytes : List ℕ) : Type 0 where
  pub no_frame : HasFrame bytes → ⊥
  pub not_malformed : IsMalformed bytes → ⊥
  pub not_old : IsOld bytes → ⊥
