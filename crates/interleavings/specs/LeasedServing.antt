-- Chains whose servers have leases and serve connections: one that was called gone may go on with all of it. What is
-- asked of them, and the one order of the calls whose replies connections are written.
use Rattle.std.specs.Prelude.{◌≡◌, ℕ, ◌+◌, ◌<◌, ◌≤◌, Bool, true, false, not, ◌&&◌, List, [], ◌∷◌, ◌++◌, length, take}
use Rattle.std.specs.Prelude.{map}
use Rattle.std.specs.Prelude.{None, Some, slice_get, IsSome, if◌then◌else◌}
use Rattle.table.specs.Histories.{IsLegal}
use Rattle.table.specs.declared.operations.Reply.{Reply}
use Rattle.proto.specs.Streams.{turns, outcome_texts}
use Rattle.interleavings.specs.Chains.{Chain, with_at}
use Rattle.interleavings.specs.Moves.{Stops}
use Rattle.interleavings.specs.Quiet.{goes_on}
use Rattle.interleavings.specs.Connections.{Connection}
use Rattle.interleavings.specs.ServingMoves.{ServingChain, ServingMove, Reads, Begins, Asks, Peeks, Refuses, Answers}
use Rattle.interleavings.specs.ServingMoves.{Writes, Ends, Runs, opening_serving, served_by}
use Rattle.interleavings.specs.Served.{IsMadeUpdate, is_call_published}
use Rattle.interleavings.specs.Served.{CallName, ServedCall, StandsThere, IsEarlier, call_made, reply_got}
use Rattle.interleavings.specs.LeasedMoves.{with_leases, counted, home_of}
use Rattle.interleavings.specs.LeasedOrders.{mover, IsBegunBy}

-- A chain that serves; which servers a master called gone while they went on; and how many messages from each server
-- have arrived at each.
pub record LeasedServing : Type 0 where
  pub serving : ServingChain
  pub called : ℕ → Bool
  pub arrived : ℕ → ℕ → ℕ

-- A move of such a chain.
pub data LeasedServingMove : Type 0 where
  -- one of the chain that serves, also of a server that was called gone, its seats and its connections
  Serves : (m : ServingMove) → LeasedServingMove
  -- a master calls server i gone, which goes on: from now on others may be told so
  CallsGone : (i : ℕ) → LeasedServingMove

-- ---- runs

-- how many messages have arrived after this move
abbrev pub counted_serving : (ℕ → ℕ → ℕ) → Chain → ServingMove → ℕ → ℕ → ℕ
counted_serving arrived l (Runs m) = counted arrived l m
counted_serving arrived l m = arrived

-- server i goes on, and wasn't called gone before
abbrev pub may_be_gone : LeasedServing → ℕ → Bool
may_be_gone s i = goes_on s.serving.chain i && not (s.called i)

-- what a move does. One that doesn't apply has no effect.
abbrev pub leased_serving_by : LeasedServing → LeasedServingMove → LeasedServing
leased_serving_by s (Serves m) =
    record s {
      serving = served_by (with_leases s.called) s.serving m;
      arrived = counted_serving s.arrived s.serving.chain m;
    }
leased_serving_by s (CallsGone i) = if may_be_gone s i then record s { called = with_at s.called i true } else s

-- a chain before any move
abbrev pub opening_leased_serving : ℕ → List ℕ → LeasedServing
opening_leased_serving count homes =
    record { serving = opening_serving count homes; called = λ i. false; arrived = λ i j. 0 }

-- the chain after these moves, one after another
abbrev pub leased_serving_from : LeasedServing → List LeasedServingMove → LeasedServing
leased_serving_from s [] = s
leased_serving_from s (m ∷ ms) = leased_serving_from (leased_serving_by s m) ms

-- the chain after a run
abbrev pub leased_serving : ℕ → List ℕ → List LeasedServingMove → LeasedServing
leased_serving count homes moves = leased_serving_from (opening_leased_serving count homes) moves

-- ---- what is asked

-- how many messages server i has put for server j
abbrev pub put_by : LeasedServing → ℕ → ℕ → ℕ
put_by s i j = s.arrived i j + length (s.serving.chain.channels i j)

-- what was written to a connection, and then what is due: the bytes that its session has made up
abbrev pub made_up : Connection → List ℕ
made_up k = k.written ++ k.session.out

-- All that servers put out was made up before they were called gone:
pub record IsLeasedServing (count : ℕ) (homes : List ℕ) (moves : List LeasedServingMove) : Type 0 where
  -- what was written to a connection in this run its session had made up after some first k moves, among which its
  -- server isn't called gone;
  pub bytes : (c n : ℕ)
      → (k : ℕ)
      × ((leased_serving count homes (take k moves)).called (home_of count homes c) ≡ false)
      × IsBegunBy (made_up ((leased_serving count homes (take k moves)).serving.connections c n))
      ((leased_serving count homes moves).serving.connections c n).written
  -- and the messages of server i that arrived at j it had put after some first k moves, among which it isn't called
  -- gone.
  pub messages : (i j : ℕ)
      → (k : ℕ)
      × ((leased_serving count homes (take k moves)).called i ≡ false)
      × ((leased_serving count homes moves).arrived i j ≤ put_by (leased_serving count homes (take k moves)) i j)

-- ---- the run in which they stop

-- the server of a move: that of the seat, or the one that makes the move of the running chain
abbrev pub server_of : (ℕ → ℕ) → ServingMove → ℕ
server_of home (Reads c piece) = home c
server_of home (Begins c) = home c
server_of home (Asks c) = home c
server_of home (Peeks c) = home c
server_of home (Refuses c) = home c
server_of home (Answers c) = home c
server_of home (Writes c n) = home c
server_of home (Ends c) = home c
server_of home (Runs m) = mover home m

-- what is left of a move: a server that is called gone stops, and neither it nor its seats and connections make a move
-- from then on
abbrev pub kept_serving : (ℕ → ℕ) → LeasedServing → LeasedServingMove → List ServingMove
kept_serving home s (Serves m) = if s.called (server_of home m) then [] else m ∷ []
kept_serving home s (CallsGone i) = if may_be_gone s i then Runs (Stops i) ∷ [] else []

-- what is left of these, one after another
abbrev pub kept_serving_from : (ℕ → ℕ) → LeasedServing → List LeasedServingMove → List ServingMove
kept_serving_from home s [] = []
kept_serving_from home s (m ∷ ms) = kept_serving home s m ++ kept_serving_from home (leased_serving_by s m) ms

-- the run in which each server stops when it is called gone
abbrev pub serving_as_stopped : ℕ → List ℕ → List LeasedServingMove → List ServingMove
serving_as_stopped count homes moves =
    kept_serving_from (home_of count homes) (opening_leased_serving count homes) moves

-- ---- the order

-- after the first k moves the server of this call isn't called gone
abbrev pub IsUngone : ℕ → List ℕ → List LeasedServingMove → ℕ → CallName → Type 0
IsUngone count homes moves k x =
    (leased_serving count homes (take k moves)).called (home_of count homes x.seat) ≡ false

-- x precedes y: after some first k moves, among which the server of x isn't called gone, x is answered, and y isn't
-- made
pub record ComesBeforeGone (count : ℕ) (homes : List ℕ) (moves : List LeasedServingMove) (x y : CallName) :
    Type 0 where
  pub k : ℕ
  pub ungone : IsUngone count homes moves k x
  pub answered : IsSome (reply_got (leased_serving count homes (take k moves)).serving x)
  pub not_made : call_made (leased_serving count homes (take k moves)).serving y ≡ None

-- x is published first: x and y are updates at one server of the chain, and after some first k moves, among which it
-- isn't called gone, the step of x is published, and that of y isn't (a seat's number is its port)
pub record PublishedFirstUngone (count : ℕ) (homes : List ℕ) (moves : List LeasedServingMove) (x y : CallName) :
    Type 0 where
  pub k : ℕ
  pub ungone : IsUngone count homes moves k x
  pub published : is_call_published (λ c. c) (leased_serving count homes (take k moves)).serving x ≡ true
  pub not_published : is_call_published (λ c. c) (leased_serving count homes (take k moves)).serving y ≡ false
  pub server : ℕ
  pub of_chain : server < count
  pub here : slice_get homes x.seat ≡ Some server
  pub there : slice_get homes y.seat ≡ Some server
  pub update : IsMadeUpdate (leased_serving count homes moves).serving x
  pub later_update : IsMadeUpdate (leased_serving count homes moves).serving y

-- The order h explains each reply that a connection got before its server was called gone:
pub record IsOrderBeforeGone (count : ℕ) (homes : List ℕ) (moves : List LeasedServingMove) (h : List ServedCall) :
    Type 0 where
  -- each reply in it is that of a single table, after all calls before it;
  pub legal : IsLegal (map (λ e. (e.call, e.reply)) h)
  -- each of its calls is one that its connection made;
  pub made : (i : ℕ) (e : ServedCall)
      → slice_get h i ≡ Some e
      → call_made (leased_serving count homes moves).serving e.id ≡ Some e.call
  -- no call stands in it twice;
  pub once : (i j : ℕ) (x : CallName) → StandsThere h i x → StandsThere h j x → i ≡ j
  -- each call that has its reply after some first k moves, among which its server isn't called gone, stands in it, with
  -- this reply;
  pub answered : (x : CallName) (reply : Reply) (k : ℕ)
      → IsUngone count homes moves k x
      → reply_got (leased_serving count homes (take k moves)).serving x ≡ Some reply
      → (i : ℕ) × (at : StandsThere h i x) × (at.entry.reply ≡ reply)
  -- if x precedes y and y is in it, x is in it, at an earlier place;
  pub in_time : (x y : CallName) (j : ℕ)
      → ComesBeforeGone count homes moves x y
      → StandsThere h j y
      → (i : ℕ) × (i < j) × StandsThere h i x
  -- so it is if x is published first, before y,
  pub in_turn : (x y : CallName) (j : ℕ)
      → PublishedFirstUngone count homes moves x y
      → StandsThere h j y
      → (i : ℕ) × (i < j) × StandsThere h i x
  -- and if x is an earlier call of the connection of y.
  pub own : (x y : CallName) (j : ℕ) → IsEarlier x y → StandsThere h j y → (i : ℕ) × (i < j) × StandsThere h i x

-- What was written to a connection begins the texts of its turns, each call's with an outcome that it had after some
-- first k moves, among which its server isn't called gone: so the order explains each reply that was written.
pub record IsWrittenBeforeGone (count : ℕ) (homes : List ℕ) (moves : List LeasedServingMove) (c n : ℕ) : Type 0 where
  pub k : ℕ
  pub ungone : (leased_serving count homes (take k moves)).called (home_of count homes c) ≡ false
  pub written : (rest : List ℕ)
      × (outcome_texts (turns ((leased_serving count homes (take k moves)).serving.connections c n).read)
      ((leased_serving count homes (take k moves)).serving.connections c n).outcomes
      ≡ ((leased_serving count homes moves).serving.connections c n).written ++ rest)
