-- A chain that serves connections: its moves, one at a time and in any order; and the chain after a run of them.
use Rattle.std.specs.Prelude.{ℕ, suc, Bool, true, false, not, ◌&&◌, List, [], ◌∷◌, Option, None, Some, if◌then◌else◌}
use Rattle.table.specs.Items.{Item}
use Rattle.table.specs.declared.operations.Call.{Call}
use Rattle.table.specs.declared.operations.Op.{Op}
use Rattle.table.specs.declared.operations.Op.TheVariants.{Read}
use Rattle.table.specs.declared.operations.Target.{Target}
use Rattle.table.specs.declared.operations.Target.TheVariants.{One, All}
use Rattle.table.specs.declared.operations.Reply.{Reply}
use Rattle.table.specs.declared.operations.Reply.TheVariants.{Value}
use Rattle.node.specs.declared.looks.Look.{Look}
use Rattle.node.specs.declared.looks.Look.TheVariants.{Clean, Dirty}
use Rattle.node.specs.Faces.{face_of, look_at}
use Rattle.proto.specs.Turns.{is_store}
use Rattle.interleavings.specs.Chains.{Chain, with_at, opening_chain}
use Rattle.interleavings.specs.Moves.{Move, Sends, Takes, Publishes, Puts, Arrives, Replies, Receives, Looks, Stops}
use Rattle.interleavings.specs.Moves.{Notices, is_free, read_of}
use Rattle.interleavings.specs.OtherMoves.{Doing}
use Rattle.interleavings.specs.Connections.{Connection, opening_connection, heard, begun, made, answered, wrote, waits}
use Rattle.interleavings.specs.Connections.{refused, may_have}

-- A chain that serves: the running chain; for each seat, how many of its connections have ended; and the connections,
-- by their seat and their number there. A seat serves one at a time, the one after those that have ended.
pub record ServingChain : Type 0 where
  pub chain : Chain
  pub ended : ℕ → ℕ
  pub connections : ℕ → ℕ → Connection

-- A move: one change that no thread sees half done.
pub data ServingMove : Type 0 where
  -- these bytes are read of the connection that seat c serves
  Reads : (c : ℕ) (piece : List ℕ) → ServingMove
  -- its session gives its next turn
  Begins : (c : ℕ) → ServingMove
  -- the call that is to be made is sent: seat c sends it into its server's inbox
  Asks : (c : ℕ) → ServingMove
  -- the call that is to be made is a read, and seat c answers it by a look
  Peeks : (c : ℕ) → ServingMove
  -- the call that is to be made is a store, and is refused: nothing is sent, and it is never made
  Refuses : (c : ℕ) → ServingMove
  -- seat c takes the oldest reply of its queue, for the call that its connection waits for
  Answers : (c : ℕ) → ServingMove
  -- the first n bytes of the output are written to the connection
  Writes : (c n : ℕ) → ServingMove
  -- the connection ends, wherever it stands; seat c serves the next one
  Ends : (c : ℕ) → ServingMove
  -- a move of servers, channels and queues
  Runs : (move : Move) → ServingMove

-- the connection that seat c serves
abbrev pub served_at : ServingChain → ℕ → Connection
served_at s c = s.connections c (s.ended c)

-- this is it from now on
abbrev pub with_served : ServingChain → ℕ → Connection → ServingChain
with_served s c k = record s { connections = with_at s.connections c (with_at (s.connections c) (s.ended c) k) }

-- ---- refusals

-- this call is to be made: it is refused, if it is a store
abbrev pub refusing : ServingChain → ℕ → Option Call → ServingChain
refusing s c None = s
refusing s c (Some call) = if is_store call.op then with_served s c (refused (served_at s c)) else s

-- the move is a refusal
abbrev pub is_refusal : ServingMove → Bool
is_refusal (Reads c piece) = false
is_refusal (Begins c) = false
is_refusal (Asks c) = false
is_refusal (Peeks c) = false
is_refusal (Refuses c) = true
is_refusal (Answers c) = false
is_refusal (Writes c n) = false
is_refusal (Ends c) = false
is_refusal (Runs move) = false

-- ---- looks

-- the key that a call reads, if it is a read
abbrev pub key_read : Target → Op → Option (List ℕ)
key_read (One key) Read = Some key
key_read (One key) op = None
key_read All op = None

-- the same of the call that is to be made
abbrev pub key_due : Option Call → Option (List ℕ)
key_due None = None
key_due (Some call) = key_read call.target call.op

-- of a clean key a look is the reply, and of a dirty one it is none
abbrev pub reply_by : Look Item → Option Reply
reply_by (Clean item) = Some (Value item)
reply_by Dirty = None

-- the reply by a look of seat c, if it waits for no reply and its server's face is there
abbrev pub look_reply : Chain → ℕ → List ℕ → Option Reply
look_reply l c key =
    if is_free (l.seats c) && not (l.servers (l.seats c).home).stopped
    then reply_by (look_at (face_of (l.servers (l.seats c).home).node) key)
    else None

-- the move is one that a seat makes for its connection
abbrev pub is_of_seat : Move → Bool
is_of_seat (Sends c call) = true
is_of_seat (Takes i sender) = false
is_of_seat (Publishes i) = false
is_of_seat (Puts i j) = false
is_of_seat (Arrives i j) = false
is_of_seat (Replies i c) = false
is_of_seat (Receives c) = true
is_of_seat (Looks c key) = true
is_of_seat (Stops i) = false
is_of_seat (Notices i j) = false

-- before any move: an opening chain, and seats of whose connections nothing was read
abbrev pub opening_serving : ℕ → List ℕ → ServingChain
opening_serving count homes =
    record { chain = opening_chain count homes; ended = λ c. 0; connections = λ c n. opening_connection }

-- ---- runs

-- What a move of the running chain does is an argument, `does`: it is `done`, or that with the ports of the code.
module _ (does : Doing) where
  -- the running chain has made this move, and this is the connection that seat c serves from now on
  abbrev pub with_move : ServingChain → Move → ℕ → Connection → ServingChain
  with_move s m c k = with_served (record s { chain = does s.chain m }) c k

  -- ---- calls and replies

  -- this call is to be made: it is sent, if the seat waits for no reply
  abbrev pub asking : ServingChain → ℕ → Option Call → ServingChain
  asking s c None = s
  asking s c (Some call) =
      if is_free (s.chain.seats c) then with_move s (Sends c call) c (made call (served_at s c)) else s

  -- the read of this key is made, and has this reply
  abbrev pub peeked : ServingChain → ℕ → List ℕ → Option Reply → ServingChain
  peeked s c key None = s
  peeked s c key (Some reply) = with_move s (Looks c key) c (answered reply (made (read_of key) (served_at s c)))

  -- this key is to be read: it is looked at
  abbrev pub peeking : ServingChain → ℕ → Option (List ℕ) → ServingChain
  peeking s c None = s
  peeking s c (Some key) = peeked s c key (look_reply s.chain c key)

  -- the connection takes the first of these replies, which stand in the seat's queue, if it waits for one
  abbrev pub answering : ServingChain → ℕ → List Reply → ServingChain
  answering s c [] = s
  answering s c (reply ∷ more) =
      if waits (served_at s c) && may_have (served_at s c).session.asked reply
      then with_move s (Receives c) c (answered reply (served_at s c))
      else s

  -- ---- moves

  -- what a move does. One that doesn't apply has no effect.
  abbrev pub served_by : ServingChain → ServingMove → ServingChain
  served_by s (Reads c piece) = with_served s c (heard piece (served_at s c))
  served_by s (Begins c) = with_served s c (begun (served_at s c))
  served_by s (Asks c) = asking s c (served_at s c).due
  served_by s (Peeks c) = peeking s c (key_due (served_at s c).due)
  served_by s (Refuses c) = refusing s c (served_at s c).due
  served_by s (Answers c) = answering s c (s.chain.seats c).queued
  served_by s (Writes c n) = with_served s c (wrote n (served_at s c))
  served_by s (Ends c) = record s { ended = with_at s.ended c (suc (s.ended c)) }
  served_by s (Runs m) = if is_of_seat m then s else record s { chain = does s.chain m }

  -- the chain after these moves, one after another
  abbrev pub served_from : ServingChain → List ServingMove → ServingChain
  served_from s [] = s
  served_from s (m ∷ ms) = served_from (served_by s m) ms

  -- the chain after a run
  abbrev pub served : ℕ → List ℕ → List ServingMove → ServingChain
  served count homes moves = served_from (opening_serving count homes) moves
