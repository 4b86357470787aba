-- The order of calls in time and in turn along events, and the one order of a single table.
use Rattle.std.specs.Prelude.{◌≡◌, ℕ, ◌+◌, ◌<◌, nat_lt, Bool, true, false, List, length, take, map, Option, None, Some}
use Rattle.std.specs.Prelude.{slice_get, IsSome}
use Rattle.table.specs.Histories.{IsLegal}
use Rattle.table.specs.Operations.{is_update}
use Rattle.table.specs.declared.operations.Call.{Call}
use Rattle.table.specs.declared.operations.Reply.{Reply}
use Rattle.world.specs.Calls.{CallId}
use Rattle.world.specs.Orders.{OrderedCall, StandsAt}
use Rattle.interleavings.specs.Chains.{calls_from}
use Rattle.local_histories.specs.Events.{Event}
use Rattle.local_histories.specs.Objects.{OpenedChain, sent_from, shown_by}
use Rattle.local_histories.specs.Standing.{begun_at, ended_at, home_of, port_of}

-- the call, once it is sent, or a look has answered it; a call's name is a seat, and an ordinal among its calls
abbrev pub begun_call : OpenedChain → List Event → CallId → Option Call
begun_call s es x = slice_get (begun_at (home_of s x.connection) (port_of s x.connection) es) x.ordinal

-- its reply, once its seat has it
abbrev pub reply_to : OpenedChain → List Event → CallId → Option Reply
reply_to s es x = slice_get (ended_at (home_of s x.connection) (port_of s x.connection) es) x.ordinal

-- The face after the call is shown: the call is begun, and isn't one of those that were sent and whose faces aren't
-- shown, which are the last ones of its seat.
abbrev pub is_shown : OpenedChain → List Event → CallId → Bool
is_shown s es x =
    let i = home_of s x.connection in
    let p = port_of s x.connection in
    nat_lt (x.ordinal + length (sent_from i p es)) (length (begun_at i p es) + length (calls_from p (shown_by i es)))

-- x precedes y: after the first k events x is answered, and y isn't begun
pub record Precedes (s : OpenedChain) (es : List Event) (x y : CallId) : Type 0 where
  pub k : ℕ
  pub answered : IsSome (reply_to s (take k es) x)
  pub not_begun : begun_call s (take k es) y ≡ None

-- the call is a begun update
abbrev pub IsUpdate : OpenedChain → List Event → CallId → Type 0
IsUpdate s es x = (call : Call) × (begun_call s es x ≡ Some call) × (is_update call.op ≡ true)

-- x is shown before y: both are updates at one server, and after the first k events the face after x is shown, and that
-- after y isn't
pub record ShownBefore (s : OpenedChain) (es : List Event) (x y : CallId) : Type 0 where
  pub k : ℕ
  pub shown : is_shown s (take k es) x ≡ true
  pub not_shown : is_shown s (take k es) y ≡ false
  pub server : ℕ
  pub of_chain : server < s.count
  pub here : slice_get s.homes x.connection ≡ Some server
  pub there : slice_get s.homes y.connection ≡ Some server
  pub update : IsUpdate s es x
  pub later_update : IsUpdate s es y

-- The order h is one of the calls of these events:
pub record IsOrderOf (s : OpenedChain) (es : List Event) (h : List OrderedCall) : Type 0 where
  -- each reply in it is that of a single table, after all calls before it;
  pub legal : IsLegal (map (λ e. (e.call, e.reply)) h)
  -- each of its calls is one that was begun, as it was begun;
  pub begun : (i : ℕ) (e : OrderedCall) → slice_get h i ≡ Some e → begun_call s es e.id ≡ Some e.call
  -- no call stands in it twice;
  pub once : (i j : ℕ) (x : CallId) → StandsAt h i x → StandsAt h j x → i ≡ j
  -- each answered call stands in it, with the reply that it got;
  pub answered : (x : CallId) (reply : Reply) → reply_to s es x ≡ Some reply
      → (i : ℕ) × (at : StandsAt h i x) × (at.entry.reply ≡ reply)
  -- if x precedes y and y is in it, x is in it, at an earlier place;
  pub in_time : (x y : CallId) (j : ℕ)
      → Precedes s es x y
      → StandsAt h j y
      → (i : ℕ) × (i < j) × StandsAt h i x

-- and so it is if x is shown before y.
pub record IsInTurn (s : OpenedChain) (es : List Event) (h : List OrderedCall) : Type 0 where
  pub in_turn : (x y : CallId) (j : ℕ)
      → ShownBefore s es x y
      → StandsAt h j y
      → (i : ℕ) × (i < j) × StandsAt h i x

-- no order is one of these events' calls
abbrev pub HasNoOrder : OpenedChain → List Event → Type 0
HasNoOrder s es = (h : List OrderedCall) → IsOrderOf s es h → ⊥
