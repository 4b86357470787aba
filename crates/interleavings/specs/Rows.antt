-- Clients that have several updates in flight. Such a client is a row of connections at one server, its parts: another
-- part begins, at another seat or as the next connection of a seat, whenever an update goes ahead of an open one. Each
-- part has one open call at most, as each connection has.
use Rattle.std.specs.Prelude.{◌≡◌, ◌≢◌, ℕ, suc, ◌+◌, ◌<◌, ◌≤◌, true, false, List, [], ◌∷◌, ◌++◌, length, take, drop}
use Rattle.std.specs.Prelude.{Option, None, Some, slice_get, IsSome}
use Rattle.std.specs.List.{flat_map}
use Rattle.table.specs.declared.operations.Call.{Call}
use Rattle.table.specs.declared.operations.Reply.{Reply}
use Rattle.proto.specs.declared.requests.Request.{Request}
use Rattle.proto.specs.Fronts.{front, is_last}
use Rattle.proto.specs.Turns.{Outcome, Replied, Refused, is_store, calls_of}
use Rattle.proto.specs.Sessions.{next_of}
use Rattle.proto.specs.Streams.{turns, outcome_texts}
use Rattle.interleavings.specs.OtherMoves.{Doing}
use Rattle.interleavings.specs.Connections.{Connection, gives_none}
use Rattle.interleavings.specs.ServingMoves.{ServingChain, ServingMove, served}
use Rattle.interleavings.specs.Served.{unrefused, CallName, call_made, reply_got, ServedCall, StandsThere, HasAll}
use Rattle.interleavings.specs.Served.{is_call_published, IsMadeUpdate, IsEarlier}

-- ---- parts

-- A part of a row, as `CallName` names connections: by a seat and the connection's number there.
pub record PartName : Type 0 where
  pub seat : ℕ
  pub number : ℕ

-- its connection
abbrev pub part_at : ServingChain → PartName → Connection
part_at s p = s.connections p.seat p.number

-- the part whose call this is
abbrev pub part_of : CallName → PartName
part_of x = record { seat = x.seat; number = x.number }

-- the part stands in the row
pub record IsPart (row : List PartName) (p : PartName) : Type 0 where
  pub place : ℕ
  pub here : slice_get row place ≡ Some p

-- p stands in the row before q
pub record IsBefore (row : List PartName) (p q : PartName) : Type 0 where
  pub place : ℕ
  pub later_place : ℕ
  pub earlier : place < later_place
  pub here : slice_get row place ≡ Some p
  pub there : slice_get row later_place ≡ Some q

-- The call x stands in the row before y:
pub data StandsBefore (row : List PartName) (x y : CallName) : Type 0 where
  -- its part stands before that of y,
  OfEarlierPart : IsBefore row (part_of x) (part_of y) → StandsBefore row x y
  -- or it is an earlier call of the same part
  OfOnePart : IsEarlier x y → StandsBefore row x y

-- ---- what a row read, made and was written, one part after another

abbrev pub row_read : ServingChain → List PartName → List ℕ
row_read s row = flat_map (λ p. (part_at s p).read) row

abbrev pub row_calls : ServingChain → List PartName → List Call
row_calls s row = flat_map (λ p. (part_at s p).calls) row

abbrev pub row_replies : ServingChain → List PartName → List Reply
row_replies s row = flat_map (λ p. (part_at s p).replies) row

abbrev pub row_written : ServingChain → List PartName → List ℕ
row_written s row = flat_map (λ p. (part_at s p).written) row

-- ---- what its calls came to

-- of each of these calls what it came to, or none if that isn't known yet: the outcomes are those of the first ones
abbrev pub fates_of : List Call → List Outcome → List (Option Outcome)
fates_of [] os = []
fates_of (call ∷ calls) [] = None ∷ fates_of calls []
fates_of (call ∷ calls) (o ∷ os) = Some o ∷ fates_of calls os

-- of each call that the bytes of a row's parts spell, one part after another
abbrev pub row_fates : ServingChain → List PartName → List (Option Outcome)
row_fates s row = flat_map (λ p. fates_of (calls_of (turns (part_at s p).read)) (part_at s p).outcomes) row

-- the outcomes up to the first call whose outcome isn't known
abbrev pub first_known : List (Option Outcome) → List Outcome
first_known [] = []
first_known (None ∷ fates) = []
first_known (Some o ∷ fates) = o ∷ first_known fates

-- all replies among them
abbrev pub replies_in : List (Option Outcome) → List Reply
replies_in [] = []
replies_in (None ∷ fates) = replies_in fates
replies_in (Some (Replied reply) ∷ fates) = reply ∷ replies_in fates
replies_in (Some Refused ∷ fates) = replies_in fates

-- the calls that weren't refused
abbrev pub not_refused : List Call → List (Option Outcome) → List Call
not_refused [] fates = []
not_refused (call ∷ calls) [] = call ∷ calls
not_refused (call ∷ calls) (None ∷ fates) = call ∷ not_refused calls fates
not_refused (call ∷ calls) (Some (Replied reply) ∷ fates) = call ∷ not_refused calls fates
not_refused (call ∷ calls) (Some Refused ∷ fates) = not_refused calls fates

-- these are as many as the calls, and a call that was refused is a store
abbrev pub AreFates : List Call → List (Option Outcome) → Type 0
AreFates [] [] = Unit {0}
AreFates [] (fate ∷ fates) = ⊥
AreFates (call ∷ calls) [] = ⊥
AreFates (call ∷ calls) (None ∷ fates) = AreFates calls fates
AreFates (call ∷ calls) (Some (Replied reply) ∷ fates) = AreFates calls fates
AreFates (call ∷ calls) (Some Refused ∷ fates) = (is_store call.op ≡ true) × AreFates calls fates

-- ---- rows

-- These bytes are whole requests, one after another, and none of them ends its stream.
pub data AreWhole : List ℕ → Type 0 where
  NoBytes : AreWhole []
  OneMore : (bytes : List ℕ) (found : Request × ℕ)
      → front bytes ≡ Some found
      → is_last found.0 ≡ false
      → AreWhole (drop found.1 bytes)
      → AreWhole bytes

-- each call that these bytes spell was made by the connection, or refused
abbrev pub HasAsked : List ℕ → Connection → Type 0
HasAsked bytes k = length k.calls ≡ length (unrefused (calls_of (turns bytes)) k.outcomes)

-- These connections are a row of a run, if a move of the running chain does this:
pub record IsRow (does : Doing) (count : ℕ) (homes : List ℕ) (moves : List ServingMove) (row : List PartName) :
    Type 0 where
  -- what each part but the last has read is whole requests, of which none ends its stream;
  pub whole : (p q : PartName) → IsBefore row p q → AreWhole (part_at (served does count homes moves) p).read
  -- all parts are at one server of the chain;
  pub server : ℕ
  pub of_chain : server < count
  pub at_server : (p : PartName) → IsPart row p → slice_get homes p.seat ≡ Some server
  -- when the move after some first k makes a call of a part, each part before it has asked all: each call that its
  -- bytes spell, as many as it reads in all, was made or refused,
  pub made_in_turn : (p q : PartName) (k : ℕ)
      → IsBefore row p q
      → length (part_at (served does count homes (take k moves)) q).calls
      < length (part_at (served does count homes (take (suc k) moves)) q).calls
      → HasAsked (part_at (served does count homes moves) p).read (part_at (served does count homes (take k moves)) p)
  -- and each call of a part before it has its reply, or both are updates;
  pub only_updates : (x y : CallName) (k : ℕ)
      → IsBefore row (part_of x) (part_of y)
      → call_made (served does count homes (take k moves)) y ≡ None
      → IsSome (call_made (served does count homes (take (suc k) moves)) y)
      → IsSome (call_made (served does count homes (take k moves)) x)
      → reply_got (served does count homes (take k moves)) x ≡ None
      → IsMadeUpdate (served does count homes moves) x × IsMadeUpdate (served does count homes moves) y
  -- and nothing was written to a part unless each part before it has all.
  pub written_in_turn : (p q : PartName)
      → IsBefore row p q
      → (part_at (served does count homes moves) q).written ≢ []
      → HasAll (part_at (served does count homes moves) p)

-- The updates of a row are published in turn, if each seat's calls come from this port of its server: when the move
-- after some first k publishes an update of a part, those of each part before it are published.
pub record IsPublishedInTurn (does : Doing) (port : ℕ → ℕ) (count : ℕ) (homes : List ℕ) (moves : List ServingMove)
    (row : List PartName) : Type 0 where
  pub published_in_turn : (x y : CallName) (k : ℕ)
      → IsBefore row (part_of x) (part_of y)
      → IsMadeUpdate (served does count homes moves) x
      → IsMadeUpdate (served does count homes moves) y
      → is_call_published port (served does count homes (take k moves)) y ≡ false
      → is_call_published port (served does count homes (take (suc k) moves)) y ≡ true
      → is_call_published port (served does count homes (take k moves)) x ≡ true

-- ---- what clients get

-- no output is left at a part, and its session has no turn to give
pub record HasNothingToWrite (k : Connection) : Type 0 where
  pub out : k.session.out ≡ []
  pub turns : gives_none k.session ≡ true

-- no call of a part is open, and none can begin
pub record HasNothingOpen (k : Connection) : Type 0 where
  pub asked : k.session.asked ≡ None
  pub turns : (next_of k.session).0 ≡ None

-- A client got what its bytes ask for, and nothing else:
pub record IsRowServed (s : ServingChain) (row : List PartName) : Type 0 where
  -- each call that its bytes spell came to its reply, or was refused, or it isn't known yet; and stores alone are
  -- refused;
  pub fates : AreFates (calls_of (turns (row_read s row))) (row_fates s row)
  -- the calls that it made are the first of those that weren't refused, in turn,
  pub calls : (later : List Call)
      × (not_refused (calls_of (turns (row_read s row))) (row_fates s row) ≡ row_calls s row ++ later)
  -- and have the replies among what they came to, but for one call of each part at most;
  pub got : row_replies s row ≡ replies_in (row_fates s row)
  pub replies : length (row_replies s row) ≤ length (row_calls s row)
  pub few_open : length (row_calls s row) ≤ length (row_replies s row) + length row
  -- what was written to it begins the texts of its turns, each call's with its outcome, up to the first without one;
  pub written : (rest : List ℕ)
      × (outcome_texts (turns (row_read s row)) (first_known (row_fates s row)) ≡ row_written s row ++ rest)
  -- and is all of them, if at each part nothing is left to write;
  pub all_written : ((p : PartName) → IsPart row p → HasNothingToWrite (part_at s p))
      → row_written s row ≡ outcome_texts (turns (row_read s row)) (first_known (row_fates s row))
  -- and if at each part nothing is open, each call that its bytes spell has its outcome.
  pub all_answered : ((p : PartName) → IsPart row p → HasNothingOpen (part_at s p))
      → length (first_known (row_fates s row)) ≡ length (calls_of (turns (row_read s row)))

-- In the order h the calls of a row stand in turn: if y is in it, and is published if it is an update, each call x that
-- was made and stands before y in the row is in it too, at an earlier place. (Of an update that isn't published nothing
-- is said; one that is answered is published.)
abbrev pub IsRowInTurn : (ℕ → ℕ) → ServingChain → List PartName → List ServedCall → Type 0
IsRowInTurn port s row h =
    (x y : CallName) (j : ℕ)
    → StandsBefore row x y
    → IsSome (call_made s x)
    → (IsMadeUpdate s y → is_call_published port s y ≡ true)
    → StandsThere h j y
    → (i : ℕ) × (i < j) × StandsThere h i x
