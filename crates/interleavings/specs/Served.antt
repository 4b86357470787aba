-- What clients get: the one order of their calls, and the bytes that each of them is written.
use Rattle.std.specs.Prelude.{◌≡◌, ℕ, zero, suc, ◌+◌, ◌<◌, ◌≤◌, Bool, true, false, ◌&&◌, List, [], ◌∷◌, ◌++◌, length}
use Rattle.std.specs.Prelude.{take, map, Option, None, Some, is_some, slice_get, IsSome}
use Rattle.table.specs.Histories.{IsLegal}
use Rattle.table.specs.Operations.{is_update}
use Rattle.table.specs.declared.operations.Call.{Call}
use Rattle.table.specs.declared.operations.Reply.{Reply}
use Rattle.proto.specs.Turns.{Outcome, Replied, Refused, is_store, calls_of}
use Rattle.proto.specs.Sessions.{next_of}
use Rattle.proto.specs.Streams.{turns, outcome_texts}
use Rattle.world.specs.Calls.{CallId}
use Rattle.interleavings.specs.OtherMoves.{Doing, is_published_from}
use Rattle.interleavings.specs.Quiet.{goes_on}
use Rattle.interleavings.specs.Connections.{Connection, gives_none}
use Rattle.interleavings.specs.ServingMoves.{ServingChain, ServingMove, is_refusal, served}

-- ---- what calls came to

-- the replies among outcomes
abbrev pub replies_of : List Outcome → List Reply
replies_of [] = []
replies_of (Replied reply ∷ os) = reply ∷ replies_of os
replies_of (Refused ∷ os) = replies_of os

-- the calls that weren't refused: the outcomes are those of the first of these calls
abbrev pub unrefused : List Call → List Outcome → List Call
unrefused [] os = []
unrefused (call ∷ calls) [] = call ∷ calls
unrefused (call ∷ calls) (Replied reply ∷ os) = call ∷ unrefused calls os
unrefused (call ∷ calls) (Refused ∷ os) = unrefused calls os

-- the first of these calls can have come to this: there are no more outcomes than calls, and a call that was refused is
-- a store
abbrev pub AreOutcomes : List Call → List Outcome → Type 0
AreOutcomes [] [] = Unit {0}
AreOutcomes [] (o ∷ os) = ⊥
AreOutcomes (call ∷ calls) [] = Unit {0}
AreOutcomes (call ∷ calls) (Replied reply ∷ os) = AreOutcomes calls os
AreOutcomes (call ∷ calls) (Refused ∷ os) = (is_store call.op ≡ true) × AreOutcomes calls os

-- no move of these is a refusal
abbrev pub NoneRefused : List ServingMove → Type 0
NoneRefused [] = Unit {0}
NoneRefused (m ∷ ms) = (is_refusal m ≡ false) × NoneRefused ms

-- ---- of one connection

-- A connection got what its bytes ask for, and nothing else:
pub record IsServed (k : Connection) : Type 0 where
  -- its outcomes are those of the first calls that its bytes spell, in turn, wherever these were cut;
  pub outcomes : AreOutcomes (calls_of (turns k.read)) k.outcomes
  -- the calls that it made are the first of those that weren't refused,
  pub calls : k.calls ≡ take (length k.calls) (unrefused (calls_of (turns k.read)) k.outcomes)
  -- and have the replies among the outcomes: each has one, but for the last call at most;
  pub got : k.replies ≡ replies_of k.outcomes
  pub replies : length k.replies ≤ length k.calls
  pub one_open : length k.calls ≤ length k.replies + 1
  -- what was written to it begins the texts of its turns, each call's with its outcome, up to the first without one;
  pub written : (rest : List ℕ) × (outcome_texts (turns k.read) k.outcomes ≡ k.written ++ rest)
  -- and is all of them, if no output is left and the session has no turn to give;
  pub all_written : k.session.out ≡ []
      → gives_none k.session ≡ true
      → k.written ≡ outcome_texts (turns k.read) k.outcomes
  -- and if no call is open and none can begin, each call that its bytes spell has its outcome.
  pub all_answered : k.session.asked ≡ None
      → (next_of k.session).0 ≡ None
      → length k.outcomes ≡ length (calls_of (turns k.read))

-- nothing is left to do at the connection: no call is to be made, no turn can begin, and no output is left
pub record IsRested (k : Connection) : Type 0 where
  pub due : k.due ≡ None
  pub turns : (next_of k.session).0 ≡ None
  pub out : k.session.out ≡ []

-- each call that its bytes spell has a reply or was refused, and all that is due was written to it
pub record HasAll (k : Connection) : Type 0 where
  pub answered : length k.outcomes ≡ length (calls_of (turns k.read))
  pub written : k.written ≡ outcome_texts (turns k.read) k.outcomes

-- ---- the order of all calls, in the words of `Orders.antt`

-- A call's name: its connection, by a seat and the connection's number there, and its ordinal among the connection's
-- calls.
pub record CallName : Type 0 where
  pub seat : ℕ
  pub number : ℕ
  pub ordinal : ℕ

-- the call, once it was made
abbrev pub call_made : ServingChain → CallName → Option Call
call_made s x = slice_get (s.connections x.seat x.number).calls x.ordinal

-- its reply, once its connection has it
abbrev pub reply_got : ServingChain → CallName → Option Reply
reply_got s x = slice_get (s.connections x.seat x.number).replies x.ordinal

-- A call of an order: its name, what it asks, and its reply.
pub record ServedCall : Type 0 where
  pub id : CallName
  pub call : Call
  pub reply : Reply

-- the call x stands at place i of the order
pub record StandsThere (h : List ServedCall) (i : ℕ) (x : CallName) : Type 0 where
  pub entry : ServedCall
  pub here : slice_get h i ≡ Some entry
  pub named : entry.id ≡ x

-- x precedes y: after some first k moves x is answered, and y isn't made
pub record ComesBefore (does : Doing) (count : ℕ) (homes : List ℕ) (moves : List ServingMove) (x y : CallName) :
    Type 0 where
  pub k : ℕ
  pub answered : IsSome (reply_got (served does count homes (take k moves)) x)
  pub not_made : call_made (served does count homes (take k moves)) y ≡ None

-- The order h is one of all connections' calls, if a move of the running chain does this:
pub record IsOneOrder (does : Doing) (count : ℕ) (homes : List ℕ) (moves : List ServingMove) (h : List ServedCall) :
    Type 0 where
  -- each reply in it is that of a single table, after all calls before it;
  pub legal : IsLegal (map (λ e. (e.call, e.reply)) h)
  -- each of its calls is one that its connection made;
  pub made : (i : ℕ) (e : ServedCall)
      → slice_get h i ≡ Some e
      → call_made (served does count homes moves) e.id ≡ Some e.call
  -- no call stands in it twice;
  pub once : (i j : ℕ) (x : CallName) → StandsThere h i x → StandsThere h j x → i ≡ j
  -- each answered call stands in it, with the reply that its connection got;
  pub answered : (x : CallName) (reply : Reply) → reply_got (served does count homes moves) x ≡ Some reply
      → (i : ℕ) × (at : StandsThere h i x) × (at.entry.reply ≡ reply)
  -- if x precedes y and y is in it, x is in it, at an earlier place.
  pub in_time : (x y : CallName) (j : ℕ)
      → ComesBefore does count homes moves x y
      → StandsThere h j y
      → (i : ℕ) × (i < j) × StandsThere h i x

-- ---- in turn, in the words of `OtherMoves.antt`

-- how many calls the first n connections of seat c have made
abbrev pub calls_before : ServingChain → ℕ → ℕ → ℕ
calls_before s c zero = 0
calls_before s c (suc n) = calls_before s c n + length (s.connections c n).calls

-- the call among those of its seat, which are those of its connections, one connection after another
abbrev pub id_at_seat : ServingChain → CallName → CallId
id_at_seat s x = record { connection = x.seat; ordinal = calls_before s x.seat x.number + x.ordinal }

-- the call was made, and its step is published, if each seat's calls come from this port of its server
abbrev pub is_call_published : (ℕ → ℕ) → ServingChain → CallName → Bool
is_call_published port s x = is_some (call_made s x) && is_published_from port s.chain (id_at_seat s x)

-- the call is an update that its connection made
abbrev pub IsMadeUpdate : ServingChain → CallName → Type 0
IsMadeUpdate s x = (call : Call) × (call_made s x ≡ Some call) × (is_update call.op ≡ true)

-- x is published first: x and y are updates at one server of the chain, and after some first k moves the step of x is
-- published, and that of y isn't
pub record PublishedFirst (does : Doing) (port : ℕ → ℕ) (count : ℕ) (homes : List ℕ) (moves : List ServingMove)
    (x y : CallName) : Type 0 where
  pub k : ℕ
  pub published : is_call_published port (served does count homes (take k moves)) x ≡ true
  pub not_published : is_call_published port (served does count homes (take k moves)) y ≡ false
  pub server : ℕ
  pub of_chain : server < count
  pub here : slice_get homes x.seat ≡ Some server
  pub there : slice_get homes y.seat ≡ Some server
  pub update : IsMadeUpdate (served does count homes moves) x
  pub later_update : IsMadeUpdate (served does count homes moves) y

-- x is a call that the connection of y made before y
pub record IsEarlier (x y : CallName) : Type 0 where
  pub seat : x.seat ≡ y.seat
  pub number : x.number ≡ y.number
  pub earlier : x.ordinal < y.ordinal

-- The order h is in turn:
pub record IsServedInTurn (does : Doing) (port : ℕ → ℕ) (count : ℕ) (homes : List ℕ) (moves : List ServingMove)
    (h : List ServedCall) : Type 0 where
  -- if x is published first, before y, and y is in it, x is in it, at an earlier place;
  pub in_turn : (x y : CallName) (j : ℕ)
      → PublishedFirst does port count homes moves x y
      → StandsThere h j y
      → (i : ℕ) × (i < j) × StandsThere h i x
  -- and so it is if x is an earlier call of the connection of y.
  pub own : (x y : CallName) (j : ℕ) → IsEarlier x y → StandsThere h j y → (i : ℕ) × (i < j) × StandsThere h i x

-- ---- if nothing is left to do

-- each call that a connection made has its reply, if the server of its seat goes on
abbrev pub NoneUnanswered : ServingChain → Type 0
NoneUnanswered s =
    (x : CallName)
    → goes_on s.chain (s.chain.seats x.seat).home ≡ true
    → IsSome (call_made s x)
    → IsSome (reply_got s x)

-- each connection at which nothing is left to do has all, if the server of its seat goes on
abbrev pub AllHaveAll : ServingChain → Type 0
AllHaveAll s =
    (c n : ℕ)
    → goes_on s.chain (s.chain.seats c).home ≡ true
    → IsRested (s.connections c n)
    → HasAll (s.connections c n)
