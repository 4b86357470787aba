-- Lives: chains that follow one another, each of which begins with the table that the one before holds in the end, and
-- one order of the calls of all.
use Rattle.std.specs.Prelude.{◌≡◌, ℕ, suc, ◌≤◌, ◌<◌, ◌==◌, List, [], ◌∷◌, take, map, Option, None, Some, slice_get}
use Rattle.std.specs.Prelude.{IsSome, if◌then◌else◌}
use Rattle.std.specs.Option.{option_and_then}
use Rattle.table.specs.Histories.{IsLegalFrom}
use Rattle.table.specs.Plain.{PlainTable}
use Rattle.table.specs.declared.operations.Call.{Call}
use Rattle.table.specs.declared.operations.Reply.{Reply}
use Rattle.node.specs.Servers.{most}
use Rattle.world.specs.Calls.{CallId}
use Rattle.interleavings.specs.Chains.{Chain}
use Rattle.interleavings.specs.Moves.{Move, moved_from}
use Rattle.interleavings.specs.Asked.{AreAsked}
use Rattle.interleavings.specs.Orders.{begun_call, reply_to}
use Rattle.interleavings.specs.Restored.{IsReached, restored_chain}
use Rattle.interleavings.specs.OrdersFrom.{PublishedBeforeFrom, IsHeld}

-- A chain of a life: how many servers it has, the homes of its seats, and the table with which it begins.
pub record Generation : Type 0 where
  pub count : ℕ
  pub homes : List ℕ
  pub table : PlainTable

-- A move of a life: of which chain, the first one being 0; and the move.
pub record LifeMove : Type 0 where
  pub chain : ℕ
  pub move : Move

-- A call's name in a life: its chain, and its name there.
pub record LifeName : Type 0 where
  pub chain : ℕ
  pub id : CallId

-- the moves of chain g among these, in order
abbrev pub moves_of : ℕ → List LifeMove → List Move
moves_of g [] = []
moves_of g (m ∷ ms) = if m.chain == g then m.move ∷ moves_of g ms else moves_of g ms

-- a chain before any move
abbrev pub start_of : Generation → Chain
start_of x = restored_chain x.count x.homes x.table

-- chain g after the moves of a life, if this is it
abbrev pub run_of : Generation → ℕ → List LifeMove → Chain
run_of x g moves = moved_from (start_of x) (moves_of g moves)

-- the call, once it is begun
abbrev pub begun_in : List Generation → List LifeMove → LifeName → Option Call
begun_in gs moves x = option_and_then (λ g. begun_call (run_of g x.chain moves) x.id) (slice_get gs x.chain)

-- its reply, once its seat has it
abbrev pub reply_in : List Generation → List LifeMove → LifeName → Option Reply
reply_in gs moves x = option_and_then (λ g. reply_to (run_of g x.chain moves) x.id) (slice_get gs x.chain)

-- The chains follow one another:
pub record AreSuccessive (gs : List Generation) (moves : List LifeMove) : Type 0 where
  -- each has 1 to 16 servers, and begins with a table that leaves numbers to take;
  pub some : (g : ℕ) (x : Generation) → slice_get gs g ≡ Some x → 1 ≤ x.count
  pub few : (g : ℕ) (x : Generation) → slice_get gs g ≡ Some x → x.count ≤ 16
  pub numbers : (g : ℕ) (x : Generation) → slice_get gs g ≡ Some x → x.table.count < most
  -- that of the first is reached;
  pub reached : (x : Generation) → slice_get gs 0 ≡ Some x → IsReached x.table
  -- clients can ask its calls;
  pub asked : (g : ℕ) → AreAsked (moves_of g moves)
  -- the table with which the next one begins is held in the end, so no update of this one comes after it (a server that
  -- has handed it over and has ended is one that makes no more moves here, and none that counts as stopped);
  pub handed : (g : ℕ) (x y : Generation)
      → slice_get gs g ≡ Some x
      → slice_get gs (suc g) ≡ Some y
      → IsHeld (run_of x g moves) y.table
  -- and once a call of a later one is begun, none of an earlier one is begun any more. (Moves of the earlier one may
  -- still come: seats take replies, servers stop.)
  pub retired : (k : ℕ) (x y : LifeName)
      → x.chain < y.chain
      → IsSome (begun_in gs (take k moves) y)
      → IsSome (begun_in gs moves x)
      → IsSome (begun_in gs (take k moves) x)

-- x precedes y: after some first k moves of the life x is answered, and y isn't begun
pub record PrecedesIn (gs : List Generation) (moves : List LifeMove) (x y : LifeName) : Type 0 where
  pub k : ℕ
  pub answered : IsSome (reply_in gs (take k moves) x)
  pub not_begun : begun_in gs (take k moves) y ≡ None

-- A call of an order: which one, what it asks, and a reply to it.
pub record LifeCall : Type 0 where
  pub name : LifeName
  pub call : Call
  pub reply : Reply

-- the call x stands at place i of the order h
pub record StandsIn (h : List LifeCall) (i : ℕ) (x : LifeName) : Type 0 where
  pub entry : LifeCall
  pub here : slice_get h i ≡ Some entry
  pub same : entry.name ≡ x

-- The order h is a linearization of the life:
pub record IsLifeOrder (t : PlainTable) (gs : List Generation) (moves : List LifeMove) (h : List LifeCall) :
    Type 0 where
  -- each reply in it is that of a single table over all chains, which is t at first, after all calls before it;
  pub legal : IsLegalFrom t (map (λ e. (e.call, e.reply)) h)
  -- each of its calls is one that was begun, as it was begun;
  pub begun : (i : ℕ) (e : LifeCall) → slice_get h i ≡ Some e → begun_in gs moves e.name ≡ Some e.call
  -- no call stands in it twice;
  pub once : (i j : ℕ) (x : LifeName) → StandsIn h i x → StandsIn h j x → i ≡ j
  -- each answered call stands in it, with the reply that it got;
  pub answered : (x : LifeName) (reply : Reply)
      → reply_in gs moves x ≡ Some reply
      → (i : ℕ) × (at : StandsIn h i x) × (at.entry.reply ≡ reply)
  -- if x precedes y and y is in it, x is in it, at an earlier place, whatever chains they are of;
  pub in_time : (x y : LifeName) (j : ℕ)
      → PrecedesIn gs moves x y
      → StandsIn h j y
      → (i : ℕ) × (i < j) × StandsIn h i x
  -- and so it is if both are updates at one server of a chain, and x is published before y.
  pub in_turn : (g : ℕ) (x : Generation) (a b : CallId) (j : ℕ)
      → slice_get gs g ≡ Some x
      → PublishedBeforeFrom (start_of x) (moves_of g moves) a b
      → StandsIn h j (record { chain = g; id = b })
      → (i : ℕ) × (i < j) × StandsIn h i (record { chain = g; id = a })
