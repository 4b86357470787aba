-- The order of calls in time along a run of moves, and the one order in which a single table would have answered them:
-- in the words of `world/specs/Orders.antt`.
use Rattle.std.specs.Prelude.{◌≡◌, ℕ, ◌+◌, ◌<◌, nat_lt, Bool, true, false, List, length, take, map, Option, None, Some}
use Rattle.std.specs.Prelude.{slice_get, IsSome}
use Rattle.table.specs.Histories.{IsLegal}
use Rattle.table.specs.Operations.{is_update}
use Rattle.table.specs.declared.operations.Call.{Call}
use Rattle.table.specs.declared.operations.Reply.{Reply}
use Rattle.world.specs.Calls.{CallId}
use Rattle.world.specs.Orders.{OrderedCall, StandsAt}
use Rattle.interleavings.specs.Chains.{Chain, calls_from, queue}
use Rattle.interleavings.specs.Moves.{Move, moved}

-- the call, once its seat has sent it, or has looked; a call's name is a seat, and an ordinal among its calls
abbrev pub begun_call : Chain → CallId → Option Call
begun_call l x = slice_get (l.seats x.connection).calls x.ordinal

-- its reply, once its seat has it
abbrev pub reply_to : Chain → CallId → Option Reply
reply_to l x = slice_get (l.seats x.connection).got x.ordinal

-- the calls of seat c that wait for a step of its server: they are in its inbox, or one is taken and unpublished
abbrev pub waiting_calls : Chain → ℕ → List Call
waiting_calls l c = calls_from c (queue (l.servers (l.seats c).home))

-- the step of the call is published: it is begun, and isn't one of those that wait, which are the last of its seat
abbrev pub is_published : Chain → CallId → Bool
is_published l x =
    nat_lt (x.ordinal + length (waiting_calls l x.connection)) (length (l.seats x.connection).calls)

-- the call is a begun update
abbrev pub IsUpdate : Chain → CallId → Type 0
IsUpdate l x = (call : Call) × (begun_call l x ≡ Some call) × (is_update call.op ≡ true)

-- x precedes y: after some first k moves x is answered, and y isn't begun
pub record Precedes (count : ℕ) (homes : List ℕ) (moves : List Move) (x y : CallId) : Type 0 where
  pub k : ℕ
  pub answered : IsSome (reply_to (moved count homes (take k moves)) x)
  pub not_begun : begun_call (moved count homes (take k moves)) y ≡ None

-- x is published before y: both are updates at one server, and after some first k moves the step of x is published, and
-- that of y isn't
pub record PublishedBefore (count : ℕ) (homes : List ℕ) (moves : List Move) (x y : CallId) : Type 0 where
  pub k : ℕ
  pub published : is_published (moved count homes (take k moves)) x ≡ true
  pub not_published : is_published (moved count homes (take k moves)) y ≡ false
  pub one_server : slice_get homes x.connection ≡ slice_get homes y.connection
  pub update : IsUpdate (moved count homes moves) x
  pub later_update : IsUpdate (moved count homes moves) y

-- The order h is a linearization of the run:
pub record IsLinearization (count : ℕ) (homes : List ℕ) (moves : List Move) (h : List OrderedCall) : Type 0 where
  -- each reply in it is that of a single table, after all calls before it;
  pub legal : IsLegal (map (λ e. (e.call, e.reply)) h)
  -- each of its calls is one that was begun, as it was begun;
  pub begun : (i : ℕ) (e : OrderedCall) → slice_get h i ≡ Some e
      → begun_call (moved count homes moves) e.id ≡ Some e.call
  -- no call stands in it twice;
  pub once : (i j : ℕ) (x : CallId) → StandsAt h i x → StandsAt h j x → i ≡ j
  -- each answered call stands in it, with the reply that it got;
  pub answered : (x : CallId) (reply : Reply) → reply_to (moved count homes moves) x ≡ Some reply
      → (i : ℕ) × (at : StandsAt h i x) × (at.entry.reply ≡ reply)
  -- if x precedes y and y is in it, x is in it, at an earlier place.
  pub in_time : (x y : CallId) (j : ℕ)
      → Precedes count homes moves x y
      → StandsAt h j y
      → (i : ℕ) × (i < j) × StandsAt h i x

-- The order h is in turn: if x is published before y and y is in it, x is in it, at an earlier place.
pub record IsInTurn (count : ℕ) (homes : List ℕ) (moves : List Move) (h : List OrderedCall) : Type 0 where
  pub in_turn : (x y : CallId) (j : ℕ)
      → PublishedBefore count homes moves x y
      → StandsAt h j y
      → (i : ℕ) × (i < j) × StandsAt h i x
