-- What is asked of servers with leases; the run in which each that was called gone has stopped; and the one order of
-- the calls whose replies clients were written.
use Rattle.std.specs.Prelude.{◌≡◌, ℕ, ◌<◌, ◌≤◌, true, false, List, [], ◌∷◌, ◌++◌, length, take, map, None, Some}
use Rattle.std.specs.Prelude.{slice_get, IsSome, if◌then◌else◌}
use Rattle.table.specs.Histories.{IsLegal}
use Rattle.table.specs.declared.operations.Reply.{Reply}
use Rattle.world.specs.Calls.{CallId}
use Rattle.world.specs.Orders.{OrderedCall, StandsAt}
use Rattle.interleavings.specs.Chains.{Chain}
use Rattle.interleavings.specs.Moves.{Move, Sends, Takes, Publishes, Puts, Arrives, Replies, Receives, Looks, Stops}
use Rattle.interleavings.specs.Moves.{Notices}
use Rattle.interleavings.specs.Orders.{begun_call, reply_to, is_published, IsUpdate}
use Rattle.interleavings.specs.Quiet.{goes_on}
use Rattle.interleavings.specs.LeasedMoves.{LeasedChain, LeasedMove, Does, Calls, Writes, opening_leased}
use Rattle.interleavings.specs.LeasedMoves.{may_be_called, leased_by, leased, home_of, put_for, reply_written}

-- ---- what is asked

-- All replies that the client of seat c was written in this run the seat had after some first k moves, among which its
-- server isn't called gone.
abbrev pub AreRepliesLeased : ℕ → List ℕ → List LeasedMove → ℕ → Type 0
AreRepliesLeased count homes moves c =
    (k : ℕ)
    × ((leased count homes (take k moves)).called (home_of count homes c) ≡ false)
    × ((leased count homes moves).written c ≤ length ((leased count homes (take k moves)).chain.seats c).got)

-- All messages of server i that arrived at server j in this run it had put after some first k moves, among which it
-- isn't called gone.
abbrev pub AreMessagesLeased : ℕ → List ℕ → List LeasedMove → ℕ → ℕ → Type 0
AreMessagesLeased count homes moves i j =
    (k : ℕ)
    × ((leased count homes (take k moves)).called i ≡ false)
    × ((leased count homes moves).arrived i j ≤ put_for (leased count homes (take k moves)) i j)

-- All that servers put out was made up before they were called gone. So it is if each write, to a client or to another
-- server, asks first whether the lease still holds: `machines_look_before_tellings` of `leases` says that what such a
-- write takes was made up before anybody else was told that the server is gone.
pub record IsLeased (count : ℕ) (homes : List ℕ) (moves : List LeasedMove) : Type 0 where
  pub replies : (c : ℕ) → AreRepliesLeased count homes moves c
  pub messages : (i j : ℕ) → AreMessagesLeased count homes moves i j

-- ---- the run in which they stop

-- the server that makes a move: the one named, the home of the seat, or the one into whose inbox something comes
abbrev pub mover : (ℕ → ℕ) → Move → ℕ
mover home (Sends c call) = home c
mover home (Takes i sender) = i
mover home (Publishes i) = i
mover home (Puts i j) = i
mover home (Arrives i j) = j
mover home (Replies i c) = i
mover home (Receives c) = home c
mover home (Looks c key) = home c
mover home (Stops i) = i
mover home (Notices i j) = i

-- what is left of a move: a server that is called gone stops, and makes no move from then on; what clients are written
-- is no move of the running chain
abbrev pub kept : (ℕ → ℕ) → LeasedChain → LeasedMove → List Move
kept home s (Does m) = if s.called (mover home m) then [] else m ∷ []
kept home s (Calls i) = if may_be_called s i then Stops i ∷ [] else []
kept home s (Writes c) = []

-- what is left of these, one after another
abbrev pub kept_from : (ℕ → ℕ) → LeasedChain → List LeasedMove → List Move
kept_from home s [] = []
kept_from home s (m ∷ ms) = kept home s m ++ kept_from home (leased_by s m) ms

-- the run in which each server stops when it is called gone
abbrev pub as_stopped : ℕ → List ℕ → List LeasedMove → List Move
as_stopped count homes moves = kept_from (home_of count homes) (opening_leased count homes) moves

-- The second list begins the first.
pub record IsBegunBy {X : Type 0} (xs ys : List X) : Type 0 where
  pub more : List X
  pub all : xs ≡ ys ++ more

-- The chain l, in which servers have stopped, is what is seen of the leased chain s:
pub record IsSeenAs (s : LeasedChain) (l : Chain) : Type 0 where
  -- each server that wasn't called gone is the same, with all that it was sent, did and put out;
  pub servers : (i : ℕ) → s.called i ≡ false → l.servers i ≡ s.chain.servers i
  -- each one that was has stopped;
  pub stopped : (i : ℕ) → s.called i ≡ true → (l.servers i).stopped ≡ true
  -- each seat of one that wasn't is the same;
  pub seats : (c : ℕ) → s.called (s.chain.seats c).home ≡ false → l.seats c ≡ s.chain.seats c
  -- of each other one, the calls and the replies are the first of those in s;
  pub calls : (c : ℕ) → IsBegunBy (s.chain.seats c).calls (l.seats c).calls
  pub got : (c : ℕ) → IsBegunBy (s.chain.seats c).got (l.seats c).got
  -- and its client was written replies that it has in l too.
  pub written : (c : ℕ) → s.written c ≤ length (l.seats c).got

-- ---- the order

-- x precedes y: the client of x is written its reply in the run; after some first k moves the seat of x has it, and y
-- isn't begun
pub record PrecedesWritten (count : ℕ) (homes : List ℕ) (moves : List LeasedMove) (x y : CallId) : Type 0 where
  pub written : IsSome (reply_written (leased count homes moves) x)
  pub k : ℕ
  pub answered : IsSome (reply_to (leased count homes (take k moves)).chain x)
  pub not_begun : begun_call (leased count homes (take k moves)).chain y ≡ None

-- The order h explains all that clients were written:
pub record IsOrderOfWritten (count : ℕ) (homes : List ℕ) (moves : List LeasedMove) (h : List OrderedCall) :
    Type 0 where
  -- each reply in it is that of a single table, after all calls before it;
  pub legal : IsLegal (map (λ e. (e.call, e.reply)) h)
  -- each of its calls is one that was begun, as it was begun;
  pub begun : (i : ℕ) (e : OrderedCall) → slice_get h i ≡ Some e
      → begun_call (leased count homes moves).chain e.id ≡ Some e.call
  -- no call stands in it twice;
  pub once : (i j : ℕ) (x : CallId) → StandsAt h i x → StandsAt h j x → i ≡ j
  -- each call whose reply its client was written stands in it, with this reply;
  pub answered : (x : CallId) (reply : Reply)
      → reply_written (leased count homes moves) x ≡ Some reply
      → (i : ℕ) × (at : StandsAt h i x) × (at.entry.reply ≡ reply)
  -- if x precedes y and y is in it, x is in it, at an earlier place.
  pub in_time : (x y : CallId) (j : ℕ)
      → PrecedesWritten count homes moves x y
      → StandsAt h j y
      → (i : ℕ) × (i < j) × StandsAt h i x

-- no order does
abbrev pub HasNoOrderOfWritten : ℕ → List ℕ → List LeasedMove → Type 0
HasNoOrderOfWritten count homes moves = (h : List OrderedCall) → IsOrderOfWritten count homes moves h → ⊥

-- x is published before y: both are updates at one server, and after some first k moves, among which it isn't called
-- gone, the step of x is published, and that of y isn't
pub record PublishedBeforeGone (count : ℕ) (homes : List ℕ) (moves : List LeasedMove) (x y : CallId) : Type 0 where
  pub k : ℕ
  pub published : is_published (leased count homes (take k moves)).chain x ≡ true
  pub not_published : is_published (leased count homes (take k moves)).chain y ≡ false
  pub one_server : slice_get homes x.connection ≡ slice_get homes y.connection
  pub not_gone : (leased count homes (take k moves)).called (home_of count homes x.connection) ≡ false
  pub update : IsUpdate (leased count homes moves).chain x
  pub later_update : IsUpdate (leased count homes moves).chain y

-- The order h is in turn: if x is published before y and y is in it, x is in it, at an earlier place.
pub record IsInTurnWritten (count : ℕ) (homes : List ℕ) (moves : List LeasedMove) (h : List OrderedCall) : Type 0 where
  pub in_turn : (x y : CallId) (j : ℕ)
      → PublishedBeforeGone count homes moves x y
      → StandsAt h j y
      → (i : ℕ) × (i < j) × StandsAt h i x

-- ---- no call is forgotten

-- each call of a seat whose server goes on and wasn't called gone has its reply
abbrev pub NoneForgottenUngone : LeasedChain → Type 0
NoneForgottenUngone s =
    (x : CallId)
    → s.called (s.chain.seats x.connection).home ≡ false
    → goes_on s.chain (s.chain.seats x.connection).home ≡ true
    → IsSome (begun_call s.chain x)
    → IsSome (reply_to s.chain x)
