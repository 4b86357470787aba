-- The moves of a running chain, one at a time and in any order; and the chain after a run of them.
use Rattle.std.specs.Prelude.{ℕ, Bool, true, not, ◌&&◌, ◌==◌, nat_lt, List, [], ◌∷◌, ◌++◌, length, Option, None, Some}
use Rattle.std.specs.Prelude.{is_some, if◌then◌else◌}
use Rattle.table.specs.Items.{Item}
use Rattle.table.specs.declared.operations.Call.{Call}
use Rattle.table.specs.declared.operations.Op.TheVariants.{Read}
use Rattle.table.specs.declared.operations.Target.TheVariants.{One}
use Rattle.table.specs.declared.operations.Reply.{Reply}
use Rattle.table.specs.declared.operations.Reply.TheVariants.{Value}
use Rattle.node.specs.declared.messages.Peer.{Peer}
use Rattle.node.specs.declared.messages.Input.{Input}
use Rattle.node.specs.declared.messages.Input.TheVariants.{Call as Called, From, Gone}
use Rattle.node.specs.declared.looks.Look.{Look}
use Rattle.node.specs.declared.looks.Look.TheVariants.{Clean, Dirty}
use Rattle.node.specs.Faces.{face_of, look_at}
use Rattle.node.specs.Steps.{step}
use Rattle.interleavings.specs.Chains.{RunningServer, Seat, Chain, with_running, with_channel, with_seat, opening_chain}
use Rattle.interleavings.specs.Chains.{messages_to, without_message, replies_to, without_reply}
use Rattle.interleavings.specs.Chains.{Sender, first_of, without_first_of}

-- A move: one change of the chain that no thread sees half done.
pub data Move : Type 0 where
  -- seat c, which waits for no reply, sends this call into its server's inbox
  Sends : (c : ℕ) (call : Call) → Move
  -- server i takes the first input of its inbox that is of this sender
  Takes : (i : ℕ) (sender : Sender) → Move
  -- server i publishes the face after the step of the input that it took; what the step puts out is to be put
  Publishes : (i : ℕ) → Move
  -- server i puts the first message that it has left for server j onto their channel
  Puts : (i j : ℕ) → Move
  -- the oldest message on the channel from i to j comes into the inbox of j
  Arrives : (i j : ℕ) → Move
  -- server i puts the first reply that it has left for seat c into that seat's queue
  Replies : (i c : ℕ) → Move
  -- seat c takes the oldest reply of its queue
  Receives : (c : ℕ) → Move
  -- seat c, which waits for no reply, reads this key by a look at the face that its server has published
  Looks : (c : ℕ) (key : List ℕ) → Move
  -- server i stops: its face is taken away, and it puts nothing more
  Stops : (i : ℕ) → Move
  -- server i is brought the notice that server j has stopped
  Notices : (i j : ℕ) → Move

-- ---- of seats

-- no call of the seat waits for its reply
abbrev pub is_free : Seat → Bool
is_free s = length s.calls == length s.got

-- this input comes into the inbox of server i
abbrev pub brought : Chain → ℕ → Input → Chain
brought l i input = with_running l i (record (l.servers i) { inbox = (l.servers i).inbox ++ input ∷ [] })

-- a seat that waits for no reply sends this call into its server's inbox
abbrev pub sent : Chain → ℕ → Call → Seat → Chain
sent l c call s =
    if is_free s then brought (with_seat l c (record s { calls = s.calls ++ call ∷ [] })) s.home (Called c call) else l

-- a seat takes the first of these replies, which stand in its queue
abbrev pub received : Chain → ℕ → Seat → List Reply → Chain
received l c s [] = l
received l c s (reply ∷ more) = with_seat l c (record s { got = s.got ++ reply ∷ []; queued = more })

-- a read of a key
abbrev pub read_of : List ℕ → Call
read_of key = record { target = One key; op = Read }

-- what a look shows: of a clean key it is the reply, and of a dirty one nothing
abbrev pub looked : Chain → ℕ → Seat → List ℕ → Look Item → Chain
looked l c s key (Clean item) =
    with_seat l c (record s { calls = s.calls ++ read_of key ∷ []; got = s.got ++ Value item ∷ [] })
looked l c s key Dirty = l

-- a seat looks, if it waits for no reply and its server's face is there
abbrev pub looking : Chain → ℕ → List ℕ → Seat → Chain
looking l c key s =
    if is_free s && not (l.servers s.home).stopped
    then looked l c s key (look_at (face_of (l.servers s.home).node) key)
    else l

-- ---- of servers

-- a server takes this input of a sender, if there is one
abbrev pub took : RunningServer → Sender → Option Input → RunningServer
took s sender None = s
took s sender (Some input) = record s { inbox = without_first_of sender s.inbox; unpublished = Some input }

-- one input at a time
abbrev pub taking : RunningServer → Sender → RunningServer
taking s sender =
    if s.stopped then s else (if is_some s.unpublished then s else took s sender (first_of sender s.inbox))

-- a server publishes the step of this input, if it has taken one
abbrev pub published : RunningServer → Option Input → RunningServer
published s None = s
published s (Some input) =
    record s { node = (step s.node input).state; unpublished = None; outbox = s.outbox ++ (step s.node input).outputs }

-- a server that goes on publishes the step of the input that it took
abbrev pub publishing : RunningServer → RunningServer
publishing s = if s.stopped then s else published s s.unpublished

-- server i puts the first of these messages, which it has left for server j, onto their channel
abbrev pub put : Chain → ℕ → ℕ → List Peer → Chain
put l i j [] = l
put l i j (m ∷ ms) =
    with_channel (with_running l i (record (l.servers i) { outbox = without_message j (l.servers i).outbox })) i j
    (l.channels i j ++ m ∷ [])

-- the first of these messages, which are on the channel from i to j, comes into the inbox of j
abbrev pub arrived : Chain → ℕ → ℕ → List Peer → Chain
arrived l i j [] = l
arrived l i j (m ∷ ms) = brought (with_channel l i j ms) j (From i m)

-- server i puts the first of these replies, which it has left for seat c, into the queue of that seat
abbrev pub reply_put : Chain → ℕ → ℕ → Seat → List Reply → Chain
reply_put l i c s [] = l
reply_put l i c s (reply ∷ more) =
    with_seat (with_running l i (record (l.servers i) { outbox = without_reply c (l.servers i).outbox })) c
    (record s { queued = s.queued ++ reply ∷ [] })

-- server j is of the chain, and has stopped
abbrev pub has_stopped : Chain → ℕ → Bool
has_stopped l j = nat_lt j l.count && (l.servers j).stopped

-- ---- runs

-- what a move does. One that doesn't apply has no effect.
abbrev pub done : Chain → Move → Chain
done l (Sends c call) = sent l c call (l.seats c)
done l (Takes i sender) = with_running l i (taking (l.servers i) sender)
done l (Publishes i) = with_running l i (publishing (l.servers i))
done l (Puts i j) = if (l.servers i).stopped then l else put l i j (messages_to j (l.servers i).outbox)
done l (Arrives i j) = arrived l i j (l.channels i j)
done l (Replies i c) =
    if (l.servers i).stopped then l else reply_put l i c (l.seats c) (replies_to c (l.servers i).outbox)
done l (Receives c) = received l c (l.seats c) (l.seats c).queued
done l (Looks c key) = looking l c key (l.seats c)
done l (Stops i) = with_running l i (record (l.servers i) { stopped = true })
done l (Notices i j) = if has_stopped l j then brought l i (Gone j) else l

-- the chain after these moves, one after another
abbrev pub moved_from : Chain → List Move → Chain
moved_from l [] = l
moved_from l (m ∷ ms) = moved_from (done l m) ms

-- the chain after a run
abbrev pub moved : ℕ → List ℕ → List Move → Chain
moved count homes moves = moved_from (opening_chain count homes) moves
