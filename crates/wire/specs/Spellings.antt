-- The bytes of each frame, and which frames have bytes (this project's rule).
use Rattle.std.specs.Prelude.{◌≡◌, ℕ, ◌<◌, ◌≤◌, ◌^◌, List, [], ◌∷◌, ◌++◌, length, true}
use Rattle.std.specs.Int.{w16, w32, w64, to_be_bytes}
use Rattle.table.specs.Keys.{IsKey}
use Rattle.table.specs.Operations.{is_update}
use Rattle.table.specs.declared.operations.Target.{Target}
use Rattle.table.specs.declared.operations.Target.TheVariants.{One, All}
use Rattle.table.specs.declared.operations.Op.{Op}
use Rattle.table.specs.declared.operations.Op.TheVariants.{Read, Set, Add, Replace, Append, Prepend, Cas, Incr, Decr}
use Rattle.table.specs.declared.operations.Op.TheVariants.{Delete, Flush}
use Rattle.table.specs.declared.operations.Reply.{Reply}
use Rattle.table.specs.declared.operations.Reply.TheVariants.{Stored, NotStored, Exists, NotFound, Deleted, Number}
use Rattle.table.specs.declared.operations.Reply.TheVariants.{Value, TooLarge, NotNumber, Flushed}
use Rattle.table.specs.declared.operations.Change.{Change}
use Rattle.table.specs.declared.operations.Change.TheVariants.{Keep, Put, Drop, Clear}
use Rattle.versions.specs.Entries.{LogEntry, IsEntry}
use Rattle.node.specs.Lawful.{IsCall, IsSendable}
use Rattle.node.specs.declared.messages.Body.{Body}
use Rattle.node.specs.declared.messages.Body.TheVariants as bodies
use Rattle.wire.specs.declared.frames.Frame.{Frame}
use Rattle.wire.specs.declared.frames.Frame.TheVariants.{Hello, Peer, Gone, Accepted, Refused, Noted, Reign}
use Rattle.wire.specs.declared.frames.Frame.TheVariants.{Confirmed, Stalled}
use Rattle.wire.specs.declared.frames.Frame.TheVariants as frames
use Rattle.wire.specs.declared.greetings.Introduction.{Introduction}
use Rattle.wire.specs.declared.greetings.Acceptance.{Acceptance}
use Rattle.wire.specs.declared.greetings.Reason.{Reason}
use Rattle.wire.specs.declared.greetings.Reason.TheVariants as reasons
use Rattle.wire.specs.declared.watching.Beat.{Beat}
use Rattle.wire.specs.declared.watching.Alive.{Alive}
use Rattle.wire.specs.declared.watching.Silent.{Silent}

-- a number of eight bytes, the most significant byte first
abbrev pub eight_bytes : ℕ → List ℕ
eight_bytes n = to_be_bytes w64 n

-- a number of four bytes
abbrev pub four_bytes : ℕ → List ℕ
four_bytes n = to_be_bytes w32 n

-- a number of two bytes
abbrev pub two_bytes : ℕ → List ℕ
two_bytes n = to_be_bytes w16 n

-- a key: a byte of length, and its bytes
abbrev pub key_spelling : List ℕ → List ℕ
key_spelling key = length key ∷ key

-- a length of 0 stands for all keys
abbrev pub target_spelling : Target → List ℕ
target_spelling (One key) = key_spelling key
target_spelling All = 0 ∷ []

-- an item's data: four bytes of length, and its bytes
abbrev pub block_spelling : List ℕ → List ℕ
block_spelling bytes = four_bytes (length bytes) ++ bytes

-- an operation: a code and what it takes; a read is never sent
abbrev pub op_spelling : Op → List ℕ
op_spelling Read = []
op_spelling (Set flags bytes) = 1 ∷ (four_bytes flags ++ block_spelling bytes)
op_spelling (Add flags bytes) = 2 ∷ (four_bytes flags ++ block_spelling bytes)
op_spelling (Replace flags bytes) = 3 ∷ (four_bytes flags ++ block_spelling bytes)
op_spelling (Append bytes) = 4 ∷ block_spelling bytes
op_spelling (Prepend bytes) = 5 ∷ block_spelling bytes
op_spelling (Cas flags bytes unique) = 6 ∷ (four_bytes flags ++ (eight_bytes unique ++ block_spelling bytes))
op_spelling (Incr amount) = 7 ∷ eight_bytes amount
op_spelling (Decr amount) = 8 ∷ eight_bytes amount
op_spelling Delete = 9 ∷ []
op_spelling Flush = 10 ∷ []

-- a reply: a code, and a counter's value; an item is never a reply to an update, so 7 stands for nothing
abbrev pub reply_spelling : Reply → List ℕ
reply_spelling Stored = 1 ∷ []
reply_spelling NotStored = 2 ∷ []
reply_spelling Exists = 3 ∷ []
reply_spelling NotFound = 4 ∷ []
reply_spelling Deleted = 5 ∷ []
reply_spelling (Number n) = 6 ∷ eight_bytes n
reply_spelling (Value item) = []
reply_spelling TooLarge = 8 ∷ []
reply_spelling NotNumber = 9 ∷ []
reply_spelling Flushed = 10 ∷ []

-- a change: a code, and what is put; a put item's unique isn't spelled, since it is the entry's number
abbrev pub change_spelling : Change → List ℕ
change_spelling Keep = 0 ∷ []
change_spelling (Put item) = 1 ∷ (four_bytes item.flags ++ block_spelling item.bytes)
change_spelling Drop = 2 ∷ []
change_spelling Clear = 3 ∷ []

-- an entry: its number, origin, id, target, reply and change
abbrev pub entry_spelling : LogEntry → List ℕ
entry_spelling e =
    eight_bytes e.number
    ++ (e.origin ∷ (eight_bytes e.id
    ++ (target_spelling e.target ++ (reply_spelling e.reply ++ change_spelling e.change))))

-- the kind of a body
abbrev pub kind_of : Body → ℕ
kind_of (bodies.Op id call) = 1
kind_of (bodies.Forward e) = 2
kind_of (bodies.Ack n) = 3
kind_of (bodies.Query ask key) = 4
kind_of (bodies.Answer ask n) = 5

-- a body without its kind
abbrev pub body_spelling : Body → List ℕ
body_spelling (bodies.Op id call) = eight_bytes id ++ (target_spelling call.target ++ op_spelling call.op)
body_spelling (bodies.Forward e) = entry_spelling e
body_spelling (bodies.Ack n) = eight_bytes n
body_spelling (bodies.Query ask key) = eight_bytes ask ++ key_spelling key
body_spelling (bodies.Answer ask n) = eight_bytes ask ++ eight_bytes n

-- what the opener tells of its chain: the number of servers, the start, and the chain
abbrev pub introduction_spelling : Introduction → List ℕ
introduction_spelling opener = opener.servers ∷ (eight_bytes opener.start ++ key_spelling opener.chain)

-- what the acceptor tells of itself: the start, and the servers that have failed
abbrev pub acceptance_spelling : Acceptance → List ℕ
acceptance_spelling answer = eight_bytes answer.start ++ to_be_bytes w16 answer.gone

-- a beat: the epoch, and the stamp that it brings back
abbrev pub beat_spelling : Beat → List ℕ
beat_spelling beat = eight_bytes beat.epoch ++ eight_bytes beat.stamp

-- how a server is: its epoch, its stamp, its lease's end and term, who is gone, and who was while the lease held
abbrev pub alive_spelling : Alive → List ℕ
alive_spelling alive =
    eight_bytes alive.epoch
    ++ (eight_bytes alive.stamp
    ++ (eight_bytes alive.end
    ++ (eight_bytes alive.term ++ (to_be_bytes w16 alive.gone ++ to_be_bytes w16 alive.known))))

-- a notice of silence: the epoch, and the server
abbrev pub silent_spelling : Silent → List ℕ
silent_spelling silent = eight_bytes silent.epoch ++ silent.id ∷ []

-- the code of a reason
abbrev pub code_of : Reason → ℕ
code_of reasons.Servers = 1
code_of reasons.Chain = 2
code_of reasons.Taken = 3
code_of reasons.Gone = 4
code_of reasons.Format = 5

-- a frame: format, kind, and what stands after it, as view and body
abbrev pub spelling : Frame → List ℕ
spelling (Hello id) = 2 ∷ 0 ∷ id ∷ []
spelling (Peer peer) = 2 ∷ kind_of peer.body ∷ (to_be_bytes w16 peer.view ++ body_spelling peer.body)
spelling (Gone id) = 2 ∷ 6 ∷ id ∷ []
spelling (frames.Introduction opener) = 2 ∷ 7 ∷ introduction_spelling opener
spelling (Accepted answer) = 2 ∷ 8 ∷ acceptance_spelling answer
spelling (Refused reason) = 2 ∷ 9 ∷ code_of reason ∷ []
spelling (Noted id) = 2 ∷ 10 ∷ id ∷ []
spelling (Reign epoch) = 2 ∷ 11 ∷ eight_bytes epoch
spelling (frames.Beat beat) = 2 ∷ 12 ∷ beat_spelling beat
spelling (frames.Alive alive) = 2 ∷ 13 ∷ alive_spelling alive
spelling (frames.Silent silent) = 2 ∷ 14 ∷ silent_spelling silent
spelling (Confirmed count) = 2 ∷ 15 ∷ eight_bytes count
spelling (Stalled servers) = 2 ∷ 16 ∷ two_bytes servers

-- A frame whose fields are in the ranges that no type keeps: a server has an id below 16, and 16 is the master, who may
-- greet and is never gone; a message is one that may be sent; a chain has 1 to 16 servers.
abbrev pub IsInRange : Frame → Type 0
IsInRange (Hello id) = id ≤ 16
IsInRange (Peer peer) = IsSendable peer.body
IsInRange (Gone id) = id < 16
IsInRange (frames.Introduction opener) = (1 ≤ opener.servers) × (opener.servers ≤ 16)
IsInRange (Accepted answer) = Unit {0}
IsInRange (Refused reason) = Unit {0}
IsInRange (Noted id) = id < 16
IsInRange (Reign epoch) = Unit {0}
IsInRange (frames.Beat beat) = Unit {0}
IsInRange (frames.Alive alive) = Unit {0}
IsInRange (frames.Silent silent) = silent.id < 16
IsInRange (Confirmed count) = Unit {0}
IsInRange (Stalled servers) = Unit {0}

-- a target, if a frame is seen as plain data: its key is one, as the type of keys keeps it
abbrev pub IsTarget : Target → Type 0
IsTarget (One key) = IsKey key
IsTarget All = Unit {0}

-- an operation's numbers have room in their bytes
abbrev pub HasWidths : Op → Type 0
HasWidths Read = Unit {0}
HasWidths (Set flags bytes) = flags < 2 ^ 32
HasWidths (Add flags bytes) = flags < 2 ^ 32
HasWidths (Replace flags bytes) = flags < 2 ^ 32
HasWidths (Append bytes) = Unit {0}
HasWidths (Prepend bytes) = Unit {0}
HasWidths (Cas flags bytes unique) = (flags < 2 ^ 32) × (unique < 2 ^ 64)
HasWidths (Incr amount) = amount < 2 ^ 64
HasWidths (Decr amount) = amount < 2 ^ 64
HasWidths Delete = Unit {0}
HasWidths Flush = Unit {0}

-- a reply's number has room in its bytes
abbrev pub HasReplyWidth : Reply → Type 0
HasReplyWidth (Number n) = n < 2 ^ 64
HasReplyWidth reply = Unit {0}

-- a put item's flags have room in their bytes
abbrev pub HasChangeWidth : Change → Type 0
HasChangeWidth (Put item) = item.flags < 2 ^ 32
HasChangeWidth change = Unit {0}

-- an entry as its type keeps it, with numbers that have room in their bytes
pub record IsWireEntry (e : LogEntry) : Type 0 where
  pub entry : IsEntry e
  pub number : e.number < 2 ^ 64
  pub id : e.id < 2 ^ 64
  pub target : IsTarget e.target
  pub reply : HasReplyWidth e.reply
  pub change : HasChangeWidth e.change

-- a body all of whose fields are in their ranges
abbrev pub IsBody : Body → Type 0
IsBody (bodies.Op id call) =
    (1 ≤ id) × (id < 2 ^ 64) × IsTarget call.target × IsCall call × (is_update call.op ≡ true) × HasWidths call.op
IsBody (bodies.Forward e) = IsWireEntry e
IsBody (bodies.Ack n) = n < 2 ^ 64
IsBody (bodies.Query ask key) = (1 ≤ ask) × (ask < 2 ^ 64) × IsKey key
IsBody (bodies.Answer ask n) = (1 ≤ ask) × (ask < 2 ^ 64) × (n < 2 ^ 64)

-- an introduction all of whose fields are in their ranges
abbrev pub IsIntroduction : Introduction → Type 0
IsIntroduction opener =
    (1 ≤ opener.servers) × (opener.servers ≤ 16) × (opener.start < 2 ^ 64) × IsKey opener.chain

-- the same of what an acceptor tells of itself
abbrev pub IsAcceptance : Acceptance → Type 0
IsAcceptance answer = (answer.start < 2 ^ 64) × (answer.gone < 2 ^ 16)

-- and of a beat
abbrev pub IsBeat : Beat → Type 0
IsBeat beat = (beat.epoch < 2 ^ 64) × (beat.stamp < 2 ^ 64)

-- of how a server is
abbrev pub IsAlive : Alive → Type 0
IsAlive alive =
    (alive.epoch < 2 ^ 64) × (alive.stamp < 2 ^ 64) × (alive.end < 2 ^ 64) × (alive.term < 2 ^ 64)
    × (alive.gone < 2 ^ 16) × (alive.known < 2 ^ 16)

-- of a notice of silence
abbrev pub IsSilent : Silent → Type 0
IsSilent silent = (silent.epoch < 2 ^ 64) × (silent.id < 16)

-- a frame all of whose fields are in their ranges
abbrev pub IsFrame : Frame → Type 0
IsFrame (Hello id) = id ≤ 16
IsFrame (Peer peer) = (peer.view < 2 ^ 16) × IsBody peer.body
IsFrame (Gone id) = id < 16
IsFrame (frames.Introduction opener) = IsIntroduction opener
IsFrame (Accepted answer) = IsAcceptance answer
IsFrame (Refused reason) = Unit {0}
IsFrame (Noted id) = id < 16
IsFrame (Reign epoch) = epoch < 2 ^ 64
IsFrame (frames.Beat beat) = IsBeat beat
IsFrame (frames.Alive alive) = IsAlive alive
IsFrame (frames.Silent silent) = IsSilent silent
IsFrame (Confirmed count) = count < 2 ^ 64
IsFrame (Stalled servers) = servers < 2 ^ 16
