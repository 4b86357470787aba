-- The order of calls from a start on, of a chain and a table: in the words of `Orders.antt`, with the two as arguments.
use Rattle.std.specs.Prelude.{◌≡◌, ℕ, ◌<◌, true, false, List, [], take, map, None, Some, slice_get, IsSome}
use Rattle.table.specs.Histories.{IsLegalFrom}
use Rattle.table.specs.Plain.{PlainTable}
use Rattle.table.specs.declared.operations.Reply.{Reply}
use Rattle.world.specs.Calls.{CallId}
use Rattle.world.specs.Orders.{OrderedCall, StandsAt}
use Rattle.interleavings.specs.Chains.{Chain}
use Rattle.interleavings.specs.Moves.{Move, moved_from}
use Rattle.interleavings.specs.Orders.{begun_call, reply_to, is_published, IsUpdate}
use Rattle.interleavings.specs.Quiet.{goes_on}
use Rattle.interleavings.specs.Restored.{table_after}

-- x precedes y: after some first k moves x is answered, and y isn't begun
pub record PrecedesFrom (start : Chain) (moves : List Move) (x y : CallId) : Type 0 where
  pub k : ℕ
  pub answered : IsSome (reply_to (moved_from start (take k moves)) x)
  pub not_begun : begun_call (moved_from start (take k moves)) y ≡ None

-- x is published before y: both are updates at one server, and after some first k moves the step of x is published, and
-- that of y isn't
pub record PublishedBeforeFrom (start : Chain) (moves : List Move) (x y : CallId) : Type 0 where
  pub k : ℕ
  pub published : is_published (moved_from start (take k moves)) x ≡ true
  pub not_published : is_published (moved_from start (take k moves)) y ≡ false
  pub one_server : (start.seats x.connection).home ≡ (start.seats y.connection).home
  pub update : IsUpdate (moved_from start moves) x
  pub later_update : IsUpdate (moved_from start moves) y

-- The order h is a linearization of the run:
pub record IsLinearizationFrom (t : PlainTable) (start : Chain) (moves : List Move) (h : List OrderedCall) :
    Type 0 where
  -- each reply in it is that of a single table, which is t at first, after all calls before it;
  pub legal : IsLegalFrom t (map (λ e. (e.call, e.reply)) h)
  -- each of its calls is one that was begun, as it was begun;
  pub begun : (i : ℕ) (e : OrderedCall)
      → slice_get h i ≡ Some e
      → begun_call (moved_from start moves) e.id ≡ Some e.call
  -- no call stands in it twice;
  pub once : (i j : ℕ) (x : CallId) → StandsAt h i x → StandsAt h j x → i ≡ j
  -- each answered call stands in it, with the reply that it got;
  pub answered : (x : CallId) (reply : Reply)
      → reply_to (moved_from start moves) x ≡ Some reply
      → (i : ℕ) × (at : StandsAt h i x) × (at.entry.reply ≡ reply)
  -- if x precedes y and y is in it, x is in it, at an earlier place.
  pub in_time : (x y : CallId) (j : ℕ)
      → PrecedesFrom start moves x y
      → StandsAt h j y
      → (i : ℕ) × (i < j) × StandsAt h i x

-- The order h is in turn: if x is published before y and y is in it, x is in it, at an earlier place.
pub record IsInTurnFrom (start : Chain) (moves : List Move) (h : List OrderedCall) : Type 0 where
  pub in_turn : (x y : CallId) (j : ℕ)
      → PublishedBeforeFrom start moves x y
      → StandsAt h j y
      → (i : ℕ) × (i < j) × StandsAt h i x

-- The table is held: a server of the chain that goes on holds it, and no entry above it.
pub record IsHeld (l : Chain) (t : PlainTable) : Type 0 where
  pub server : ℕ
  pub going : goes_on l server ≡ true
  pub items : (l.servers server).node.store.base ≡ t.items
  pub count : (l.servers server).node.store.floor ≡ t.count
  pub whole : (l.servers server).node.store.rest ≡ []

-- the calls of the order, from t on, leave each table that is held in the end
abbrev pub LeavesWhatIsHeld : PlainTable → Chain → List OrderedCall → Type 0
LeavesWhatIsHeld t l h = (u : PlainTable) → IsHeld l u → table_after t (map (λ e. e.call) h) ≡ u
