-- Worked runs of chains that begin with a table; and starts that lack a rule.
use Rattle.std.specs.Prelude.{ℕ, List, [], ◌∷◌, ◌++◌, replicate}
use Rattle.std.specs.FinMap as map
use Rattle.table.specs.Items.{Item}
use Rattle.table.specs.Plain.{PlainTable, opening as empty_table}
use Rattle.versions.specs.Stores.{StoreState}
use Rattle.node.specs.Servers.{ServerState}
use Rattle.world.specs.WorkedSchedules.{name}
use Rattle.interleavings.specs.Chains.{RunningServer, Chain, OfSeat}
use Rattle.interleavings.specs.Moves.{Move, Sends, Takes, Publishes, Replies, Receives}
use Rattle.interleavings.specs.Restored.{restored_running, restored_chain}
use Rattle.interleavings.specs.Lives.{Generation, LifeMove, LifeName}
use Rattle.interleavings.specs.WorkedRuns.{key, set, item, set_homes}

-- a table of three updates that left no item
abbrev pub counted_table : PlainTable
counted_table = record { items = map.empty; count = 3 }

-- a set after them has number 4
abbrev pub fourth_item : Item
fourth_item = record item { unique = 4 }

-- what servers hold then
abbrev pub store_with_it : StoreState
store_with_it = record { base = map.insert map.empty key fourth_item; floor = 4; rest = []; acked = 4 }

-- ---- One server that begins with this table, but for one rule of `restored`.

-- a server with another node
abbrev pub with_node : (ServerState → ServerState) → RunningServer → RunningServer
with_node change s = record s { node = change s.node }

-- a chain of one such server
abbrev pub restored_but : (ServerState → ServerState) → Chain
restored_but change =
    record (restored_chain 1 set_homes counted_table) {
      servers = λ i. with_node change (restored_running 1 counted_table i);
    }

-- ids are dealt anew, though they were seen
abbrev pub with_ids_anew : ServerState → ServerState
with_ids_anew s = record s { next_id = 1 }

-- no ids were seen, though the next one is given out
abbrev pub with_none_seen : ServerState → ServerState
with_none_seen s = record s { seen = replicate 16 0 }

-- ---- A chain of one server takes a set. Another one, of one server too, begins with its table, and takes the same
-- ---- set.

-- the table that the first one leaves
abbrev pub set_table : PlainTable
set_table = record { items = map.insert map.empty key item; count = 1 }

-- the chains
abbrev pub first_chain : Generation
first_chain = record { count = 1; homes = set_homes; table = empty_table }

abbrev pub second_chain : Generation
second_chain = record { count = 1; homes = set_homes; table = set_table }

abbrev pub two_chains : List Generation
two_chains = first_chain ∷ second_chain ∷ []

-- these moves of chain g
abbrev pub in_chain : ℕ → List Move → List LifeMove
in_chain g [] = []
in_chain g (m ∷ ms) = record { chain = g; move = m } ∷ in_chain g ms

-- the set is answered
abbrev pub set_alone : List Move
set_alone = Sends 0 set ∷ Takes 0 (OfSeat 0) ∷ Publishes 0 ∷ Replies 0 0 ∷ Receives 0 ∷ []

-- the moves
unfoldable pub life_moves : List LifeMove
life_moves = in_chain 0 set_alone ++ in_chain 1 set_alone

-- the set of each chain
abbrev pub set_of_chain : ℕ → LifeName
set_of_chain g = record { chain = g; id = name 0 0 }
