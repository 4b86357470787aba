-- Chains that begin with a table: which tables calls leave, and the server and the chain that begin with one.
use Rattle.std.specs.Prelude.{◌≡◌, ℕ, ◌+◌, ◌-◌, ◌*◌, ◌≤◌, ◌<◌, ◌^◌, nat_lt, true, false, ◌==◌, List, [], ◌∷◌, ◌++◌}
use Rattle.std.specs.Prelude.{length, replicate, None, Some, if◌then◌else◌}
use Rattle.table.specs.Items.{limit, Item}
use Rattle.table.specs.Keys.{IsKey}
use Rattle.table.specs.Operations.{is_update}
use Rattle.table.specs.Plain.{PlainTable, opening as empty_table, item_at, apply}
use Rattle.table.specs.declared.operations.Call.{Call}
use Rattle.table.specs.declared.operations.Reply.{Reply}
use Rattle.node.specs.Servers.{ServerState, opening}
use Rattle.interleavings.specs.Chains.{RunningServer, Seat, Chain, with_seat, opening_running, opening_chain}
use Rattle.interleavings.specs.Moves.{Move, moved}
use Rattle.interleavings.specs.Asked.{IsAsked, AreAsked}

-- ---- tables that calls leave

-- the table after these calls, one after another
abbrev pub table_after : PlainTable → List Call → PlainTable
table_after t [] = t
table_after t (c ∷ cs) = table_after (apply t c.target c.op).1 cs

-- what they are answered
abbrev pub replies_from : PlainTable → List Call → List Reply
replies_from t [] = []
replies_from t (c ∷ cs) = (apply t c.target c.op).0 ∷ replies_from (apply t c.target c.op).1 cs

-- each of them is an update that clients can ask
abbrev pub AreAskedUpdates : List Call → Type 0
AreAskedUpdates [] = Unit {0}
AreAskedUpdates (c ∷ cs) = IsAsked c × (is_update c.op ≡ true) × AreAskedUpdates cs

-- The table is reached: some updates that clients can ask leave it, from the empty one on.
pub record IsReached (t : PlainTable) : Type 0 where
  pub updates : List Call
  pub asked : AreAskedUpdates updates
  pub leave : table_after empty_table updates ≡ t

-- Each item has a unique of its own, which is one of the numbers that were taken.
pub record HasOwnUniques (t : PlainTable) : Type 0 where
  pub taken : (key : List ℕ) (item : Item)
      → item_at t.items key ≡ Some item
      → (1 ≤ item.unique) × (item.unique ≤ t.count)
  pub own : (key other : List ℕ) (item found : Item)
      → item_at t.items key ≡ Some item
      → item_at t.items other ≡ Some found
      → item.unique ≡ found.unique
      → key ≡ other

-- Each item fits: its key is one that there may be, its flags are below 2^32, and its data is within the limit.
pub record FitsAll (t : PlainTable) : Type 0 where
  pub keys : (key : List ℕ) (item : Item) → item_at t.items key ≡ Some item → IsKey key
  pub flags : (key : List ℕ) (item : Item) → item_at t.items key ≡ Some item → item.flags < 2 ^ 32
  pub bytes : (key : List ℕ) (item : Item) → item_at t.items key ≡ Some item → length item.bytes ≤ limit

-- ---- the start

-- A server that begins with a table. It holds the table's items, with no entry above them, and knows all to be
-- committed. Each number of the table counts as one that a call of server 0 took: all servers have seen the ids up to
-- the count of origin 0, and none of another origin, and server 0 gives out the next one. All else is as in a server
-- before any input.
abbrev pub restored : ℕ → ℕ → PlainTable → ServerState
restored id count t =
    record (opening id count) {
      store = record { base = t.items; floor = t.count; rest = []; acked = t.count };
      seen = t.count ∷ replicate 15 0;
      next_id = if id == 0 then t.count + 1 else 1;
    }

-- a server of a chain of `count` that begins with a table; one that isn't of the chain is as in any opening chain
abbrev pub restored_running : ℕ → PlainTable → ℕ → RunningServer
restored_running count t i =
    if nat_lt i count
    then record { node = restored i count t; inbox = []; unpublished = None; outbox = []; stopped = false }
    else opening_running count i

-- a chain of `count` servers that begin with one table, with a seat at each of these homes: nothing is on its way, and
-- no seat has begun anything
abbrev pub restored_chain : ℕ → List ℕ → PlainTable → Chain
restored_chain count homes t = record (opening_chain count homes) { servers = restored_running count t }

-- ---- how such a chain comes about

-- a seat at server 0 that has asked these updates one after another, of the empty table, and has what they are answered
abbrev pub replaying_seat : List Call → Seat
replaying_seat updates = record { home = 0; calls = updates; got = replies_from empty_table updates; queued = [] }

-- The moves restore a chain: from the opening chain on, with one seat more, they leave the chain that begins with the
-- table, in which that seat has asked these updates and is answered.
pub record Restores (count : ℕ) (homes : List ℕ) (t : PlainTable) (updates : List Call) (moves : List Move) : Type 0
  where
    -- Clients can ask their calls.
    pub asked : AreAsked moves
    -- Each update passes down the chain and back before the next is asked.
    pub many : length moves ≡ length updates * (8 * count - 3)
    pub leaves : moved count (homes ++ 0 ∷ []) moves
        ≡ with_seat (restored_chain count homes t) (length homes) (replaying_seat updates)
