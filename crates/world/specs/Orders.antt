-- The order of calls in time, and the one order in which a single table would have answered them.
use Rattle.std.specs.Prelude.{◌≡◌, ℕ, ◌<◌, true, false, List, take, map, None, Some, slice_get}
use Rattle.table.specs.Histories.{IsLegal}
use Rattle.table.specs.declared.operations.Call.{Call}
use Rattle.table.specs.declared.operations.Reply.{Reply}
use Rattle.world.specs.declared.events.Event.{Event}
use Rattle.world.specs.Worlds.{run_of}
use Rattle.world.specs.Calls.{CallId, begun_call, reply_to, IsAnswered, IsUpdate, is_given}

-- x precedes y: after some first k events x is answered, and y isn't begun
pub record Precedes (count : ℕ) (homes : List ℕ) (events : List Event) (x y : CallId) : Type 0 where
  pub k : ℕ
  pub answered : IsAnswered (run_of count homes (take k events)) x
  pub not_begun : begun_call (run_of count homes (take k events)) y ≡ None

-- x is given before y: both are updates at one server, and after some first k events x has been given to it, and y
-- hasn't
pub record GivenBefore (count : ℕ) (homes : List ℕ) (events : List Event) (x y : CallId) : Type 0 where
  pub k : ℕ
  pub given : is_given (run_of count homes (take k events)) x ≡ true
  pub not_given : is_given (run_of count homes (take k events)) y ≡ false
  pub one_server : slice_get homes x.connection ≡ slice_get homes y.connection
  pub update : IsUpdate (run_of count homes events) x
  pub later_update : IsUpdate (run_of count homes events) y

-- A call of an order: which one, what it asks, and a reply to it
-- (of a call that isn't answered: the one that the table gives).
pub record OrderedCall : Type 0 where
  pub id : CallId
  pub call : Call
  pub reply : Reply

-- the call x stands at place i of the order h
pub record StandsAt (h : List OrderedCall) (i : ℕ) (x : CallId) : Type 0 where
  pub entry : OrderedCall
  pub here : slice_get h i ≡ Some entry
  pub same : entry.id ≡ x

-- The order h is a linearization of the schedule:
pub record IsLinearization (count : ℕ) (homes : List ℕ) (events : List Event) (h : List OrderedCall) : Type 0 where
  -- each reply in it is that of a single table, after all calls before it;
  pub legal : IsLegal (map (λ e. (e.call, e.reply)) h)
  -- each of its calls is one that was begun, as it was begun;
  pub begun : (i : ℕ) (e : OrderedCall) → slice_get h i ≡ Some e
      → begun_call (run_of count homes events) e.id ≡ Some e.call
  -- no call stands in it twice;
  pub once : (i j : ℕ) (x : CallId) → StandsAt h i x → StandsAt h j x → i ≡ j
  -- each answered call stands in it, with the reply that it got;
  pub answered : (x : CallId) (reply : Reply) → reply_to (run_of count homes events) x ≡ Some reply
      → (i : ℕ) × (at : StandsAt h i x) × (at.entry.reply ≡ reply)
  -- if x precedes y and y is in it, x is in it, at an earlier place;
  pub in_time : (x y : CallId) (j : ℕ)
      → Precedes count homes events x y
      → StandsAt h j y
      → (i : ℕ) × (i < j) × StandsAt h i x
  -- and so it is if x is given before y.
  pub in_turn : (x y : CallId) (j : ℕ)
      → GivenBefore count homes events x y
      → StandsAt h j y
      → (i : ℕ) × (i < j) × StandsAt h i x
