-- Runs whose moves do something else: each definition is that of `Moves.antt` or `Orders.antt`, with what a move does
-- as an argument, and if it counts calls in an inbox also the port from which each seat's calls come.
use Rattle.std.specs.Prelude.{◌≡◌, ℕ, ◌+◌, ◌<◌, nat_lt, Bool, true, false, List, [], ◌∷◌, length, take, map, None, Some}
use Rattle.std.specs.Prelude.{slice_get, IsSome}
use Rattle.table.specs.Histories.{IsLegal}
use Rattle.table.specs.declared.operations.Reply.{Reply}
use Rattle.world.specs.Calls.{CallId}
use Rattle.world.specs.Orders.{OrderedCall, StandsAt}
use Rattle.interleavings.specs.Chains.{Chain, opening_chain, queue, calls_from}
use Rattle.interleavings.specs.Moves.{Move}
use Rattle.interleavings.specs.Orders.{begun_call, reply_to, IsUpdate}

-- what a move does
abbrev pub Doing : Type 0
Doing = Chain → Move → Chain

-- the chain after these moves, one after another
abbrev pub moved_from_by : Doing → Chain → List Move → Chain
moved_from_by does l [] = l
moved_from_by does l (m ∷ ms) = moved_from_by does (does l m) ms

-- the chain after a run
abbrev pub moved_by : Doing → ℕ → List ℕ → List Move → Chain
moved_by does count homes moves = moved_from_by does (opening_chain count homes) moves

-- x precedes y: after some first k moves x is answered, and y isn't begun
pub record PrecedesBy (does : Doing) (count : ℕ) (homes : List ℕ) (moves : List Move) (x y : CallId) : Type 0 where
  pub k : ℕ
  pub answered : IsSome (reply_to (moved_by does count homes (take k moves)) x)
  pub not_begun : begun_call (moved_by does count homes (take k moves)) y ≡ None

-- the order h is a linearization of the run
pub record IsLinearizationBy (does : Doing) (count : ℕ) (homes : List ℕ) (moves : List Move) (h : List OrderedCall) :
    Type 0 where
  pub legal : IsLegal (map (λ e. (e.call, e.reply)) h)
  pub begun : (i : ℕ) (e : OrderedCall)
      → slice_get h i ≡ Some e
      → begun_call (moved_by does count homes moves) e.id ≡ Some e.call
  pub once : (i j : ℕ) (x : CallId) → StandsAt h i x → StandsAt h j x → i ≡ j
  pub answered : (x : CallId) (reply : Reply)
      → reply_to (moved_by does count homes moves) x ≡ Some reply
      → (i : ℕ) × (at : StandsAt h i x) × (at.entry.reply ≡ reply)
  pub in_time : (x y : CallId) (j : ℕ)
      → PrecedesBy does count homes moves x y
      → StandsAt h j y
      → (i : ℕ) × (i < j) × StandsAt h i x

-- the step of the call is published, if each seat's calls come from this port of its server
abbrev pub is_published_from : (ℕ → ℕ) → Chain → CallId → Bool
is_published_from port l x =
    nat_lt
    (x.ordinal + length (calls_from (port x.connection) (queue (l.servers (l.seats x.connection).home))))
    (length (l.seats x.connection).calls)

-- x is published before y: both are updates at one server of the chain, and after some first k moves the step of x is
-- published, and that of y isn't
pub record PublishedBeforeBy (does : Doing) (port : ℕ → ℕ) (count : ℕ) (homes : List ℕ) (moves : List Move)
    (x y : CallId) : Type 0 where
  pub k : ℕ
  pub published : is_published_from port (moved_by does count homes (take k moves)) x ≡ true
  pub not_published : is_published_from port (moved_by does count homes (take k moves)) y ≡ false
  pub server : ℕ
  pub of_chain : server < count
  pub here : slice_get homes x.connection ≡ Some server
  pub there : slice_get homes y.connection ≡ Some server
  pub update : IsUpdate (moved_by does count homes moves) x
  pub later_update : IsUpdate (moved_by does count homes moves) y

-- the order h is in turn
pub record IsInTurnBy (does : Doing) (port : ℕ → ℕ) (count : ℕ) (homes : List ℕ) (moves : List Move)
    (h : List OrderedCall) : Type 0 where
  pub in_turn : (x y : CallId) (j : ℕ)
      → PublishedBeforeBy does port count homes moves x y
      → StandsAt h j y
      → (i : ℕ) × (i < j) × StandsAt h i x

-- no order is one
abbrev pub HasNoOrder : Doing → ℕ → List ℕ → List Move → Type 0
HasNoOrder does count homes moves = (h : List OrderedCall) → IsLinearizationBy does count homes moves h → ⊥
