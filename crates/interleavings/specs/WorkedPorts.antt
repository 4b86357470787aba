-- Worked runs whose calls take free ports: their moves, and the ports that are chosen. One server, and two seats there,
-- which both choose port 0 for each call.
use Rattle.std.specs.Prelude.{ℕ, List, [], ◌∷◌, ◌++◌, codes}
use Rattle.table.specs.declared.operations.Call.{Call}
use Rattle.table.specs.declared.operations.Op.TheVariants.{Flush}
use Rattle.table.specs.declared.operations.Target.TheVariants.{All}
use Rattle.interleavings.specs.Chains.{OfSeat}
use Rattle.interleavings.specs.Moves.{Move, Sends, Takes, Publishes, Replies, Receives, read_of}
use Rattle.interleavings.specs.FreePorts.{PortChoice}
use Rattle.interleavings.specs.WorkedRuns.{key, set}
use Rattle.interleavings.specs.ServingMoves.{Reads, Begins, Asks, Answers, Writes, Ends, Runs}
use Rattle.interleavings.specs.Pools.{PooledMove, Serves, Collects}

-- the homes of the seats
abbrev pub shared_homes : List ℕ
shared_homes = 0 ∷ 0 ∷ []

-- the port of each call
abbrev pub port_zero : PortChoice
port_zero c ordinal = 0

-- a flush
abbrev pub flush : Call
flush = record { target = All; op = Flush }

-- ---- The first seat's set is sent from the port, and the second seat can't send its flush: not before the set's reply
-- ---- was put. Then it does, from the same port, while the first seat hasn't taken its reply.

-- the set is answered, but for its reply, which is put and not taken
unfoldable pub set_has_port : List Move
set_has_port = Sends 0 set ∷ Sends 1 flush ∷ Takes 0 (OfSeat 0) ∷ Publishes 0 ∷ Replies 0 0 ∷ []

-- the flush is sent from the port, and both replies are taken
unfoldable pub flush_has_port : List Move
flush_has_port = Sends 1 flush ∷ Takes 0 (OfSeat 0) ∷ Publishes 0 ∷ Replies 0 1 ∷ Receives 1 ∷ Receives 0 ∷ []

-- all moves
abbrev pub port_moves : List Move
port_moves = set_has_port ++ flush_has_port

-- ---- Two runs that need a move which lacks its rule (`WrongMoves.antt`).

-- a get is sent from the port at which a set is open, and gets its reply
unfoldable pub taken_moves : List Move
taken_moves =
    Sends 0 set ∷ Sends 1 (read_of key) ∷ Takes 0 (OfSeat 0) ∷ Publishes 0 ∷ Replies 0 1 ∷ Receives 1 ∷ []

-- a set's reply is put, a flush is sent from its port, and the seat that had the port gets the reply
unfoldable pub old_moves : List Move
old_moves =
    Sends 0 set ∷ Takes 0 (OfSeat 0) ∷ Publishes 0 ∷ Replies 0 0 ∷ Sends 1 flush ∷ Takes 0 (OfSeat 0) ∷ Publishes 0
    ∷ Replies 0 0 ∷ Receives 0 ∷ Receives 0 ∷ []

-- ---- Two connections of one server. The first one ends while its set has no reply; the second one asks for a flush.
-- ---- Its call waits until the set's reply was put, and was collected.

-- the first connection's set is sent, and it ends
unfoldable pub set_is_lost : List PooledMove
set_is_lost =
    Serves (Reads 0 (codes "set a 0 0 1\r\np\r\n")) ∷ Serves (Begins 0) ∷ Serves (Asks 0) ∷ Serves (Ends 0) ∷ []

-- the set's reply is put; the second connection can't send its call, neither before nor then
unfoldable pub reply_is_put : List PooledMove
reply_is_put =
    Serves (Reads 1 (codes "flush_all\r\n")) ∷ Serves (Begins 1) ∷ Serves (Asks 1) ∷ Serves (Runs (Takes 0 (OfSeat 0)))
    ∷ Serves (Runs (Publishes 0)) ∷ Serves (Runs (Replies 0 0)) ∷ Serves (Asks 1) ∷ []

-- the reply is collected, and the second connection has its own
unfoldable pub port_is_free : List PooledMove
port_is_free =
    Collects 0 ∷ Serves (Asks 1) ∷ Serves (Runs (Takes 0 (OfSeat 0))) ∷ Serves (Runs (Publishes 0))
    ∷ Serves (Runs (Replies 0 1)) ∷ Serves (Answers 1) ∷ Serves (Writes 1 40) ∷ []

-- the moves up to the second try
abbrev pub waiting_moves : List PooledMove
waiting_moves = set_is_lost ++ reply_is_put

-- all moves
abbrev pub collected_moves : List PooledMove
collected_moves = set_is_lost ++ (reply_is_put ++ port_is_free)

-- ---- The same with queues of ports: a move that puts a reply names its port.

-- the reply is collected, and the second connection has its own
unfoldable pub port_queue_is_free : List PooledMove
port_queue_is_free =
    Collects 0 ∷ Serves (Asks 1) ∷ Serves (Runs (Takes 0 (OfSeat 0))) ∷ Serves (Runs (Publishes 0))
    ∷ Serves (Runs (Replies 0 0)) ∷ Serves (Answers 1) ∷ Serves (Writes 1 40) ∷ []

-- all moves
abbrev pub queued_moves : List PooledMove
queued_moves = set_is_lost ++ (reply_is_put ++ port_queue_is_free)
