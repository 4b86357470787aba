-- What clients get from a start on, of a chain that serves and a table: in the words of `Served.antt`, with the two as
-- arguments. A seat's number is its port here.
use Rattle.std.specs.Prelude.{◌≡◌, ℕ, ◌<◌, true, false, List, take, map, None, Some, slice_get, IsSome}
use Rattle.table.specs.Histories.{IsLegalFrom}
use Rattle.table.specs.Plain.{PlainTable}
use Rattle.table.specs.declared.operations.Reply.{Reply}
use Rattle.interleavings.specs.Moves.{done}
use Rattle.interleavings.specs.ServingMoves.{ServingChain, ServingMove, opening_serving, served_from}
use Rattle.interleavings.specs.Served.{CallName, call_made, reply_got, ServedCall, StandsThere, is_call_published}
use Rattle.interleavings.specs.Served.{IsMadeUpdate, IsEarlier}
use Rattle.interleavings.specs.Restored.{table_after, restored_chain}
use Rattle.interleavings.specs.OrdersFrom.{IsHeld}

-- a chain that begins with a table, and seats of whose connections nothing was read
abbrev pub restored_serving : ℕ → List ℕ → PlainTable → ServingChain
restored_serving count homes t = record (opening_serving count homes) { chain = restored_chain count homes t }

-- x precedes y: after some first k moves x is answered, and y isn't made
pub record ComesBeforeFrom (start : ServingChain) (moves : List ServingMove) (x y : CallName) : Type 0 where
  pub k : ℕ
  pub answered : IsSome (reply_got (served_from done start (take k moves)) x)
  pub not_made : call_made (served_from done start (take k moves)) y ≡ None

-- The order h is one of all connections' calls:
pub record IsOneOrderFrom (t : PlainTable) (start : ServingChain) (moves : List ServingMove) (h : List ServedCall) :
    Type 0 where
  -- each reply in it is that of a single table, which is t at first, after all calls before it;
  pub legal : IsLegalFrom t (map (λ e. (e.call, e.reply)) h)
  -- each of its calls is one that its connection made;
  pub made : (i : ℕ) (e : ServedCall)
      → slice_get h i ≡ Some e
      → call_made (served_from done start moves) e.id ≡ Some e.call
  -- no call stands in it twice;
  pub once : (i j : ℕ) (x : CallName) → StandsThere h i x → StandsThere h j x → i ≡ j
  -- each answered call stands in it, with the reply that its connection got;
  pub answered : (x : CallName) (reply : Reply)
      → reply_got (served_from done start moves) x ≡ Some reply
      → (i : ℕ) × (at : StandsThere h i x) × (at.entry.reply ≡ reply)
  -- if x precedes y and y is in it, x is in it, at an earlier place.
  pub in_time : (x y : CallName) (j : ℕ)
      → ComesBeforeFrom start moves x y
      → StandsThere h j y
      → (i : ℕ) × (i < j) × StandsThere h i x

-- x is published first: x and y are updates at one server, and after some first k moves the step of x is published, and
-- that of y isn't
pub record PublishedFirstFrom (start : ServingChain) (moves : List ServingMove) (x y : CallName) : Type 0 where
  pub k : ℕ
  pub published : is_call_published (λ c. c) (served_from done start (take k moves)) x ≡ true
  pub not_published : is_call_published (λ c. c) (served_from done start (take k moves)) y ≡ false
  pub one_server : (start.chain.seats x.seat).home ≡ (start.chain.seats y.seat).home
  pub update : IsMadeUpdate (served_from done start moves) x
  pub later_update : IsMadeUpdate (served_from done start moves) y

-- The order h is in turn:
pub record IsServedInTurnFrom (start : ServingChain) (moves : List ServingMove) (h : List ServedCall) : Type 0 where
  -- if x is published first, before y, and y is in it, x is in it, at an earlier place;
  pub in_turn : (x y : CallName) (j : ℕ)
      → PublishedFirstFrom start moves x y
      → StandsThere h j y
      → (i : ℕ) × (i < j) × StandsThere h i x
  -- and so it is if x is an earlier call of the connection of y.
  pub own : (x y : CallName) (j : ℕ) → IsEarlier x y → StandsThere h j y → (i : ℕ) × (i < j) × StandsThere h i x

-- the calls of the order, from t on, leave each table that is held in the end
abbrev pub LeavesWhatIsServed : PlainTable → ServingChain → List ServedCall → Type 0
LeavesWhatIsServed t s h = (u : PlainTable) → IsHeld s.chain u → table_after t (map (λ e. e.call) h) ≡ u
