-- A chain that serves connections whose calls take any free port: its moves, and what clients get of it. A seat is the
-- place of a connection here; its call takes a port of its server, and keeps it until the reply is taken.
use Rattle.std.specs.Prelude.{◌≡◌, ℕ, zero, suc, ◌<◌, Bool, true, false, not, ◌&&◌, ◌==◌, List, [], ◌∷◌, length, take}
use Rattle.std.specs.Prelude.{map}
use Rattle.std.specs.Prelude.{None, Some, is_some, slice_get, IsSome, if◌then◌else◌}
use Rattle.table.specs.Histories.{IsLegal}
use Rattle.table.specs.declared.operations.Reply.{Reply}
use Rattle.node.specs.Views.{has}
use Rattle.interleavings.specs.Chains.{Chain, with_at, messages_to, replies_to}
use Rattle.interleavings.specs.Moves.{is_free, has_stopped}
use Rattle.interleavings.specs.Quiet.{goes_on}
use Rattle.interleavings.specs.FreePorts.{PortChoice, port_now, with_free_ports, is_published_at}
use Rattle.interleavings.specs.Connections.{waits}
use Rattle.interleavings.specs.ServingMoves.{ServingChain, ServingMove, Asks, served_at, opening_serving, served_by}
use Rattle.interleavings.specs.Served.{IsRested, HasAll, CallName, call_made, reply_got, ServedCall, StandsThere}
use Rattle.interleavings.specs.Served.{id_at_seat, IsMadeUpdate, IsEarlier}

-- ---- moves

-- A chain that serves; and at which seats the reply to the last call was collected, its connection having ended.
pub record PooledServing : Type 0 where
  pub serving : ServingChain
  pub collected : ℕ → Bool

-- A move: one change that no thread sees half done.
pub data PooledMove : Type 0 where
  -- a move of the chain that serves
  Serves : (move : ServingMove) → PooledMove
  -- the reply that stands in the queue of seat c, whose connection has ended, is collected: nobody gets it, and the
  -- port of its call is free
  Collects : (c : ℕ) → PooledMove

-- seat c holds this port of server i: it is at i, and its call from there is open, and not collected
abbrev pub holds_port : PortChoice → PooledServing → ℕ → ℕ → ℕ → Bool
holds_port ports s i port c =
    (s.serving.chain.seats c).home == i && not (is_free (s.serving.chain.seats c)) && not (s.collected c)
    && port_now ports s.serving.chain c == port

-- none of the first n seats does
abbrev pub none_holds : PortChoice → PooledServing → ℕ → ℕ → ℕ → Bool
none_holds ports s i port zero = true
none_holds ports s i port (suc n) = not (holds_port ports s i port n) && none_holds ports s i port n

-- the port that was chosen for the next call of seat c is free at its server
abbrev pub may_ask : List ℕ → PortChoice → PooledServing → ℕ → Bool
may_ask homes ports s c =
    none_holds ports s (s.serving.chain.seats c).home (port_now ports s.serving.chain c) (length homes)

-- a move of the chain that serves: a call is sent only from a free port
abbrev pub serving_by : List ℕ → PortChoice → PooledServing → ServingMove → PooledServing
serving_by homes ports s (Asks c) =
    if may_ask homes ports s c
    then record s {
      serving = served_by (with_free_ports homes ports) s.serving (Asks c);
      collected = with_at s.collected c false;
    }
    else s
serving_by homes ports s m = record s { serving = served_by (with_free_ports homes ports) s.serving m }

-- the first of these replies, which stand in the queue of seat c, is collected, if its connection waits for none
abbrev pub collecting : PooledServing → ℕ → List Reply → PooledServing
collecting s c [] = s
collecting s c (reply ∷ more) =
    if waits (served_at s.serving c) then s else record s { collected = with_at s.collected c true }

-- what a move does. One that doesn't apply has no effect.
abbrev pub pooled_by : List ℕ → PortChoice → PooledServing → PooledMove → PooledServing
pooled_by homes ports s (Serves m) = serving_by homes ports s m
pooled_by homes ports s (Collects c) = collecting s c (s.serving.chain.seats c).queued

-- the chain after these moves, one after another
abbrev pub pooled_from : List ℕ → PortChoice → PooledServing → List PooledMove → PooledServing
pooled_from homes ports s [] = s
pooled_from homes ports s (m ∷ ms) = pooled_from homes ports (pooled_by homes ports s m) ms

-- before any move nothing was collected
abbrev pub opening_pooled : ℕ → List ℕ → PooledServing
opening_pooled count homes = record { serving = opening_serving count homes; collected = λ c. false }

-- the chain that serves after a run
abbrev pub pooled : ℕ → List ℕ → PortChoice → List PooledMove → ServingChain
pooled count homes ports moves = (pooled_from homes ports (opening_pooled count homes) moves).serving

-- ---- the order of all calls, in the words of `Served.antt`

-- x precedes y: after some first k moves x is answered, and y isn't made
pub record ComesBeforePooled (ports : PortChoice) (count : ℕ) (homes : List ℕ) (moves : List PooledMove)
    (x y : CallName) :
    Type 0 where
  pub k : ℕ
  pub answered : IsSome (reply_got (pooled count homes ports (take k moves)) x)
  pub not_made : call_made (pooled count homes ports (take k moves)) y ≡ None

-- The order h is one of all connections' calls:
pub record IsOneOrderPooled (ports : PortChoice) (count : ℕ) (homes : List ℕ) (moves : List PooledMove)
    (h : List ServedCall) : Type 0 where
  -- each reply in it is that of a single table, after all calls before it;
  pub legal : IsLegal (map (λ e. (e.call, e.reply)) h)
  -- each of its calls is one that its connection made;
  pub made : (i : ℕ) (e : ServedCall)
      → slice_get h i ≡ Some e
      → call_made (pooled count homes ports moves) e.id ≡ Some e.call
  -- no call stands in it twice;
  pub once : (i j : ℕ) (x : CallName) → StandsThere h i x → StandsThere h j x → i ≡ j
  -- each answered call stands in it, with the reply that its connection got;
  pub answered : (x : CallName) (reply : Reply)
      → reply_got (pooled count homes ports moves) x ≡ Some reply
      → (i : ℕ) × (at : StandsThere h i x) × (at.entry.reply ≡ reply)
  -- if x precedes y and y is in it, x is in it, at an earlier place.
  pub in_time : (x y : CallName) (j : ℕ)
      → ComesBeforePooled ports count homes moves x y
      → StandsThere h j y
      → (i : ℕ) × (i < j) × StandsThere h i x

-- the call was made, and its step is published
abbrev pub is_call_published_at : PortChoice → ServingChain → CallName → Bool
is_call_published_at ports s x = is_some (call_made s x) && is_published_at ports s.chain (id_at_seat s x)

-- x is published first: x and y are updates at one server of the chain, and after some first k moves the step of x is
-- published, and that of y isn't
pub record PublishedFirstPooled (ports : PortChoice) (count : ℕ) (homes : List ℕ) (moves : List PooledMove)
    (x y : CallName) : Type 0 where
  pub k : ℕ
  pub published : is_call_published_at ports (pooled count homes ports (take k moves)) x ≡ true
  pub not_published : is_call_published_at ports (pooled count homes ports (take k moves)) y ≡ false
  pub server : ℕ
  pub of_chain : server < count
  pub here : slice_get homes x.seat ≡ Some server
  pub there : slice_get homes y.seat ≡ Some server
  pub update : IsMadeUpdate (pooled count homes ports moves) x
  pub later_update : IsMadeUpdate (pooled count homes ports moves) y

-- The order h is in turn:
pub record IsServedInTurnPooled (ports : PortChoice) (count : ℕ) (homes : List ℕ) (moves : List PooledMove)
    (h : List ServedCall) : Type 0 where
  -- if x is published first, before y, and y is in it, x is in it, at an earlier place;
  pub in_turn : (x y : CallName) (j : ℕ)
      → PublishedFirstPooled ports count homes moves x y
      → StandsThere h j y
      → (i : ℕ) × (i < j) × StandsThere h i x
  -- and so it is if x is an earlier call of the connection of y.
  pub own : (x y : CallName) (j : ℕ) → IsEarlier x y → StandsThere h j y → (i : ℕ) × (i < j) × StandsThere h i x

-- ---- if nothing is left to do

-- Nothing is left to do in the chain, as `IsQuiet` says, but for what stands in seats' queues.
pub record HasNothingLeft (l : Chain) : Type 0 where
  -- Each server that goes on has taken all that its inbox held,
  pub inboxes : (i : ℕ) → goes_on l i ≡ true → (l.servers i).inbox ≡ []
  -- has published the step of each input that it took,
  pub all_published : (i : ℕ) → goes_on l i ≡ true → (l.servers i).unpublished ≡ None
  -- has put each message for a server that goes on,
  pub messages : (i j : ℕ) → goes_on l i ≡ true → goes_on l j ≡ true → messages_to j (l.servers i).outbox ≡ []
  -- and each reply,
  pub replies : (i port : ℕ) → goes_on l i ≡ true → replies_to port (l.servers i).outbox ≡ []
  -- and knows each server that has stopped.
  pub views : (i j : ℕ) → goes_on l i ≡ true → has_stopped l j ≡ true → has (l.servers i).node.view j ≡ true
  -- Nothing is on a channel between two of them.
  pub channels : (i j : ℕ) → goes_on l i ≡ true → goes_on l j ≡ true → l.channels i j ≡ []

-- Nothing is left to do in a chain that serves: nothing in the chain, and no reply stands in the queue of a seat whose
-- connection waits for it. A reply for which nobody waits may be left.
pub record IsServingQuiet (s : ServingChain) : Type 0 where
  pub chain : HasNothingLeft s.chain
  pub queues : (c : ℕ)
      → goes_on s.chain (s.chain.seats c).home ≡ true
      → waits (served_at s c) ≡ true
      → (s.chain.seats c).queued ≡ []

-- each call of a connection that hasn't ended has its reply, if the server of its seat goes on
abbrev pub NoneOpen : ServingChain → Type 0
NoneOpen s =
    (x : CallName)
    → x.number ≡ s.ended x.seat
    → goes_on s.chain (s.chain.seats x.seat).home ≡ true
    → IsSome (call_made s x)
    → IsSome (reply_got s x)

-- each connection that hasn't ended, and at which nothing is left to do, has all, if the server of its seat goes on
abbrev pub ServedHaveAll : ServingChain → Type 0
ServedHaveAll s =
    (c : ℕ) → goes_on s.chain (s.chain.seats c).home ≡ true → IsRested (served_at s c) → HasAll (served_at s c)
