-- Connections at a server's seats: what has come of one, and what it waits for.
use Rattle.std.specs.Prelude.{◌≡◌, ◌⊎◌, ℕ, true, List, [], ◌∷◌, ◌++◌, All, Option, Some}
use Rattle.std.specs.Prelude.{◌≤◌, ◌<◌, IsSome, length, map}
use Rattle.table.specs.Items.{Item}
use Rattle.table.specs.declared.operations.Call.{Call}
use Rattle.table.specs.declared.operations.Reply.{Reply}
use Rattle.table.specs.declared.operations.Reply.TheVariants.{Value}
use Rattle.node.specs.Lawful.{IsCall}
use Rattle.proto.specs.Turns.{Outcome, Refused, Replied, is_store}
use Rattle.faces.specs.Histories.{History, IsLater, Instance}
use Rattle.faces.specs.Readers.{HasLookedAtMostOnce}
use Rattle.rail.specs.CallSenders.{CallSenderState, SentCall, with_call}
use Rattle.serving.specs.declared.connections.Wants.TheVariants.{Read, Write, End as Ends}
use Rattle.serving.specs.Connections.{Connected, unused}
use Rattle.serving.specs.Serving.{AreAnswered}
use Rattle.serving.specs.declared.endings.End.{End}
use Rattle.serving.specs.declared.endings.ServeFault.{ServeFault}
use Rattle.serving.specs.declared.endings.ServeFault.TheVariants.{Memory, Read as Unread, Write as Unwritten}
use Rattle.serving.specs.declared.endings.ServeFault.TheVariants.{Call as NoReply}
use Rattle.serving.specs.Wanted.{IsWanted}
use Rattle.seats.specs.declared.client_connections.CallStanding.{CallStanding}
use Rattle.seats.specs.declared.client_connections.CallStanding.TheVariants.{Idle, Reading, Unsent, Sent, Over}
use Rattle.seats.specs.declared.client_connections.Pause.{Pause}
use Rattle.seats.specs.declared.client_connections.Pause.TheVariants.{Input, Output, Lease, Seat, Reply as Waits, Turn}
use Rattle.seats.specs.declared.client_connections.Pause.TheVariants.{Over as Ended}
use Rattle.seats.specs.Replies.{ShowsClean, ShowsReply}
use Rattle.seats.specs.SeatPools.{HasOneFault, HasSameLimit, IsAt, IsFreeAt, Pooling}
use Rattle.seats.specs.Submitters.{IsAnswered, Submitting}

-- What has come of a connection; where it stands; the seats of the calls that were sent after the one at which it
-- stands; the seats whose replies it has had, in turn, each as it was while its call was open; and what its reader had
-- seen at first, and when its last call had its reply.
pub record ClientConnectionState : Type 0 where
  pub connected : Connected
  pub standing : CallStanding
  pub ahead : List Submitting
  pub heard : List Submitting
  pub first : History
  pub seen : History

-- at first
abbrev pub begun : History → ClientConnectionState
begun seen = record { connected = unused; standing = Idle; ahead = []; heard = []; first = seen; seen = seen }

-- with a piece of input more
abbrev pub fed : ClientConnectionState → List ℕ → ClientConnectionState
fed t piece = record t { connected = record t.connected { read = t.connected.read ++ piece }; standing = Idle }

-- What a connection's reader had seen when its last call had its reply, and the seats whose replies it has had.
pub record Hearing : Type 0 where
  pub seen : History
  pub heard : List Submitting

abbrev pub hearing : History → List Submitting → Hearing
hearing seen heard = record { seen = seen; heard = heard }

-- A look is the reply: what was looked at begins with all that was seen before.
pub record IsPeeked (before : History) (call : Call) (reply : Reply) (after : History) : Type 0 where
  pub item : Option Item
  pub later : IsLater before after
  pub shown : ShowsClean after call item
  pub reply_is : reply ≡ Value item

-- This call is open at this seat of this server.
pub record IsOpenAt (instance : Instance) (s : Submitting) (call : Call) : Type 0 where
  pub sent : SentCall
  pub is : sent.call ≡ call
  pub opened : s.waiting ≡ Some sent
  pub here : s.seat.instance ≡ instance

-- these calls are open, in turn, each at one of these seats of this server
abbrev pub AreOpenAt : Instance → List Submitting → List Call → Type 0
AreOpenAt instance [] [] = Unit {0}
AreOpenAt instance [] (call ∷ calls) = ⊥
AreOpenAt instance (s ∷ ss) [] = ⊥
AreOpenAt instance (s ∷ ss) (call ∷ calls) = IsOpenAt instance s call × AreOpenAt instance ss calls

-- The call was open at one seat more, and this is what was answered there, by the server: the call had been sent, by a
-- sender of this server, once, from a seat that had a reply to each call before.
pub record IsHeard (before : Hearing) (call : Call) (reply : Reply) (after : Hearing) : Type 0 where
  pub seat : Submitting
  pub freed : Submitting
  pub opened : IsOpenAt before.seen.instance seat call
  pub answered : IsAnswered before.seen after.seen seat freed reply
  pub heard : after.heard ≡ before.heard ++ seat ∷ []

-- A look is the reply, for which no seat was heard; or it is the server's.
abbrev pub IsReplied : Hearing → Call → Reply → Hearing → Type 0
IsReplied before call reply after =
    (IsPeeked before.seen call reply after.seen × (after.heard ≡ before.heard)) ⊎ IsHeard before call reply after

-- What was looked at for this call, which came to this at once: for a reply the face that stood, once, and that shows
-- the reply; and nothing for a refusal.
abbrev pub HasLookedFor : Call → Outcome → Pooling → Pooling → Type 0
HasLookedFor call (Replied reply) before after =
    (after.looks ≡ before.looks ++ after.seen ∷ []) × ShowsReply after.seen call reply × HasSameLimit before after
HasLookedFor call Refused before after = (after ≡ before) × IsSome before.limit

-- These calls came to this at once by these looks, in turn: each reply by one of its own, and a refusal by none. None is
-- refused unless there is a limit.
abbrev pub AreLookedFor : Option ℕ → List Call → List Outcome → List History → Type 0
AreLookedFor limit [] [] looks = looks ≡ []
AreLookedFor limit [] (outcome ∷ outcomes) looks = ⊥
AreLookedFor limit (call ∷ calls) [] looks = ⊥
AreLookedFor limit (call ∷ calls) (Refused ∷ outcomes) looks = IsSome limit × AreLookedFor limit calls outcomes looks
AreLookedFor limit (call ∷ calls) (Replied reply ∷ outcomes) [] = ⊥
AreLookedFor limit (call ∷ calls) (Replied reply ∷ outcomes) (look ∷ looks) =
    ShowsReply look call reply × AreLookedFor limit calls outcomes looks

-- Its connection waits for no call, and may want input; or for this one, which waits for a seat; or for one or more,
-- the first of which is open at this seat of its server, and the later ones at those. All of these are seats of its
-- server.
abbrev pub StandsAt : CallStanding → List Submitting → Connected → Instance → Type 0
StandsAt Idle ahead c instance = (c.waiting ≡ []) × (ahead ≡ [])
StandsAt Reading ahead c instance = IsWanted Read c × (ahead ≡ [])
StandsAt (Unsent call) ahead c instance = (c.waiting ≡ call ∷ []) × IsCall call × (ahead ≡ [])
StandsAt (Sent s) ahead c instance = AreOpenAt instance (s ∷ ahead) c.waiting
StandsAt Over ahead c instance = All (IsAt instance) ahead

-- where it stands once the call at which it stood has its reply: at the next one
abbrev pub next_standing : List Submitting → CallStanding
next_standing [] = Idle
next_standing (s ∷ ss) = Sent s

-- and the seats of those after that
abbrev pub next_ahead : List Submitting → List Submitting
next_ahead [] = []
next_ahead (s ∷ ss) = ss

-- one call more at least has its reply, and it waits for no call, or for one that was sent
abbrev pub HasHeard : ClientConnectionState → ClientConnectionState → Type 0
HasHeard t u =
    (length t.heard < length u.heard) × ((u.standing ≡ Idle) ⊎ ((s : Submitting) × (u.standing ≡ Sent s)))

-- One more call is open: an update that was taken ahead of its turn, and that the pool's sender sent from the port of
-- one more seat of this server.
pub record HasSentAhead (p q : Pooling) (c d : Connected) (ahead longer : List Submitting) : Type 0 where
  pub call : Call
  pub s : Submitting
  pub waits : d ≡ record c { waiting = c.waiting ++ call ∷ [] }
  pub seats : longer ≡ ahead ++ s ∷ []
  pub opened : IsOpenAt p.seen.instance s call
  pub waiting : s.waiting ≡ Some (record { sender = p.sender; call = call })
  pub sent : q.sender ≡ with_call p.sender s.seat.port call

-- One more call waits: an update that was taken ahead of its turn, but wasn't sent.
abbrev pub HasLostAhead : Connected → Connected → Type 0
HasLostAhead c d = (call : Call) × (d ≡ record c { waiting = c.waiting ++ call ∷ [] })

-- the seats of the calls that were sent and have no reply, the oldest first
abbrev pub seats_open : CallStanding → List Submitting → List Submitting
seats_open Idle ahead = []
seats_open Reading ahead = []
seats_open (Unsent call) ahead = []
seats_open (Sent s) ahead = s ∷ ahead
seats_open Over ahead = []

-- the calls that were sent and have no reply, the oldest first, or those that waited when it fell
abbrev pub calls_open : CallStanding → List Call → List Call
calls_open Idle waiting = []
calls_open Reading waiting = []
calls_open (Unsent call) waiting = []
calls_open (Sent s) waiting = waiting
calls_open Over waiting = waiting

-- These are the calls that wait and weren't sent: the one that waits for a seat. If no further call is made it may be
-- one that couldn't be sent, or that was still to be looked for.
abbrev pub AreUnsent : CallStanding → List Call → Type 0
AreUnsent Idle calls = calls ≡ []
AreUnsent Reading calls = calls ≡ []
AreUnsent (Unsent call) calls = calls ≡ call ∷ []
AreUnsent (Sent s) calls = calls ≡ []
AreUnsent Over calls = length calls ≤ 1

-- This sender sent these calls, in turn, each from the port of its seat, at which it was open then, and nothing else:
-- then it was that.
abbrev pub AreSentBy : CallSenderState → List Submitting → List Call → CallSenderState → Type 0
AreSentBy sender [] [] then = then ≡ sender
AreSentBy sender [] (call ∷ calls) then = ⊥
AreSentBy sender (s ∷ ss) [] then = ⊥
AreSentBy sender (s ∷ ss) (call ∷ calls) then =
    (s.waiting ≡ Some (record { sender = sender; call = call }))
    × AreSentBy (with_call sender s.seat.port call) ss calls then

-- What the pool's sender sent are the calls that have come to wait after those that were open, in turn, and each once;
-- but for one at most, the last, which wasn't sent. Their seats are open after those that were, unless no further call
-- is made.
pub record HasSentInTurn (t u : ClientConnectionState) (p q : Pooling) : Type 0 where
  pub more : List Submitting
  pub calls : List Call
  pub unsent : List Call
  pub sent : AreSentBy p.sender more calls q.sender
  pub waiting : u.connected.waiting ≡ calls_open t.standing t.connected.waiting ++ (calls ++ unsent)
  pub are_unsent : AreUnsent u.standing unsent
  pub open_at : (u.standing ≡ Over)
      ⊎ (seats_open u.standing u.ahead ≡ seats_open t.standing t.ahead ++ more)

-- These seats had these replies to their open calls, in turn, while what the reader has seen came from this to that.
abbrev pub AreAnsweredAt : History → List Submitting → List Reply → History → Type 0
AreAnsweredAt before [] [] after = IsLater before after
AreAnsweredAt before [] (reply ∷ replies) after = ⊥
AreAnsweredAt before (s ∷ ss) [] after = ⊥
AreAnsweredAt before (s ∷ ss) (reply ∷ replies) after =
    (between : History) × (freed : Submitting) × IsAnswered before between s freed reply
    × AreAnsweredAt between ss replies after

-- The replies that came are those that the first of the seats had whose calls were open, in turn, each to the call that
-- was open there; these seats are left.
pub record HasHeardInTurn (t u : ClientConnectionState) (p q : Pooling) (left : List Submitting) : Type 0 where
  pub seats : List Submitting
  pub calls : List Call
  pub replies : List Reply
  pub first : seats_open t.standing t.ahead ≡ seats ++ left
  pub opened : AreOpenAt p.seen.instance seats calls
  pub answered : AreAnsweredAt p.seen seats replies q.seen
  pub waited : t.connected.waiting ≡ calls ++ u.connected.waiting
  pub called : u.connected.calls ≡ t.connected.calls ++ calls
  pub outcomes : u.connected.outcomes ≡ t.connected.outcomes ++ map Replied replies
  pub heard : u.heard ≡ t.heard ++ seats

-- What a fault comes from: memory was refused to this connection, or one call more got no reply at this pool. It reads
-- and writes nothing, so no fault is of these.
abbrev pub HasCause : ServeFault → Connected → Pooling → Pooling → Type 0
HasCause Memory c p q = c.failed ≡ true
HasCause Unread c p q = ⊥
HasCause Unwritten c p q = ⊥
HasCause NoReply c p q = HasOneFault p q

-- all that more calls came to are replies
pub record HasRefusedNone (c d : Connected) : Type 0 where
  pub replies : List Reply
  pub outcomes : d.outcomes ≡ c.outcomes ++ map Replied replies

-- More calls have their replies or were refused, and more output is due.
pub record IsFurther (c d : Connected) : Type 0 where
  pub more : List Call
  pub came : List Outcome
  pub lines : List ℕ
  pub read : d.read ≡ c.read
  pub calls : d.calls ≡ c.calls ++ more
  pub outcomes : d.outcomes ≡ c.outcomes ++ came
  pub due : d.due ≡ c.due ++ lines
  pub written : d.written ≡ c.written
  pub ended : d.ended ≡ c.ended

-- More calls came to something, all of them at once: these are the faces that were looked at for them, each as it stood
-- then, and no other was looked at. None was refused unless there is a limit.
pub record HasLooked (c d : Connected) (p q : Pooling) : Type 0 where
  pub more : List Call
  pub came : List Outcome
  pub faces : List History
  pub calls : d.calls ≡ c.calls ++ more
  pub outcomes : d.outcomes ≡ c.outcomes ++ came
  pub looks : q.looks ≡ p.looks ++ faces
  pub each : AreLookedFor p.limit more came faces
  pub limit : HasSameLimit p q

-- The same, and then at most one look more, for a call that came to nothing by it.
pub record HasLookedOn (c d : Connected) (p q : Pooling) : Type 0 where
  pub between : Pooling
  pub looked : HasLooked c d p between
  pub once : HasLookedAtMostOnce between.looks q.looks

-- a call that stores waits for a seat
abbrev pub HoldsStore : CallStanding → Type 0
HoldsStore standing = (call : Call) × (standing ≡ Unsent call) × (is_store call.op ≡ true)

-- it went so far, and pauses for this reason
abbrev pub HasGone : Pause → ClientConnectionState → Type 0
HasGone Input t = (t.standing ≡ Reading) × IsWanted Read t.connected
HasGone Output t = (t.standing ≡ Idle) × IsWanted Write t.connected
HasGone Lease t = ⊥
HasGone Seat t = (call : Call) × (t.standing ≡ Unsent call)
HasGone Waits t = (s : Submitting) × (t.standing ≡ Sent s)
HasGone Turn t = t.standing ≡ Idle
HasGone Ended t = (end : End) × ((t.standing ≡ Idle) × IsWanted (Ends end) t.connected)

-- a call waits, for a seat or for its reply
abbrev pub LeavesCall : Pause → Type 0
LeavesCall Input = ⊥
LeavesCall Output = ⊥
LeavesCall Lease = ⊥
LeavesCall Seat = Unit {0}
LeavesCall Waits = Unit {0}
LeavesCall Turn = ⊥
LeavesCall Ended = ⊥

-- It went so far, by looks alone unless a call waits: before that was sent it may have been looked for, once, in vain.
abbrev pub HasGoneByLooks : Pause → Connected → Connected → Pooling → Pooling → Type 0
HasGoneByLooks Input c d p q = HasLooked c d p q
HasGoneByLooks Output c d p q = HasLooked c d p q
HasGoneByLooks Lease c d p q = HasLooked c d p q
HasGoneByLooks Seat c d p q = HasLookedOn c d p q
HasGoneByLooks Waits c d p q = HasLookedOn c d p q
HasGoneByLooks Turn c d p q = HasLooked c d p q
HasGoneByLooks Ended c d p q = HasLooked c d p q

-- the seat that it has, if any, is one of this server at which no call is open
abbrev pub HoldsFree : Instance → CallStanding → Type 0
HoldsFree instance Idle = Unit {0}
HoldsFree instance Reading = Unit {0}
HoldsFree instance (Unsent call) = Unit {0}
HoldsFree instance (Sent s) = IsFreeAt instance s
HoldsFree instance Over = Unit {0}

-- the seat that it has, if any, is one of this server
abbrev pub HoldsAt : Instance → CallStanding → Type 0
HoldsAt instance Idle = Unit {0}
HoldsAt instance Reading = Unit {0}
HoldsAt instance (Unsent call) = Unit {0}
HoldsAt instance (Sent s) = IsAt instance s
HoldsAt instance Over = Unit {0}

-- Nothing came of it, and nothing was seen: more calls may wait.
pub record IsSameBut (t u : ClientConnectionState) : Type 0 where
  pub connected : u.connected ≡
      record t.connected { waiting = u.connected.waiting; failed = u.connected.failed }
  pub heard : u.heard ≡ t.heard
  pub first : u.first ≡ t.first
  pub seen : u.seen ≡ t.seen

-- Each of these calls came to something, in turn: what was seen came from this to that, and these are the seats that
-- were heard.
abbrev pub AreAllAnswered : History → List Call → List Outcome → List Submitting → History → Type 0
AreAllAnswered first calls outcomes heard seen =
    AreAnswered IsReplied (hearing first []) calls outcomes (hearing seen heard)

-- what holds of a client connection
pub record IsClientConnection (c : Connected) (standing : CallStanding) (ahead heard : List Submitting)
    (first seen : History) : Type 0 where
  pub answered : AreAllAnswered first c.calls c.outcomes heard seen
  pub stands : StandsAt standing ahead c seen.instance
