-- Worked runs of a chain that serves: their moves.
use Rattle.std.specs.Prelude.{ℕ, List, [], ◌∷◌, ◌++◌, codes}
use Rattle.table.specs.declared.operations.Call.{Call}
use Rattle.table.specs.declared.operations.Op.TheVariants.{Delete}
use Rattle.table.specs.declared.operations.Target.TheVariants.{One}
use Rattle.interleavings.specs.Chains.{OfSeat, OfServer}
use Rattle.interleavings.specs.Moves.{Takes, Publishes, Puts, Arrives, Replies}
use Rattle.interleavings.specs.WorkedRuns.{key}
use Rattle.interleavings.specs.ServingMoves.{ServingMove, Reads, Begins, Asks, Refuses, Answers, Writes, Ends, Runs}
use Rattle.interleavings.specs.Served.{CallName}

-- ---- Two servers, a client of the head. A set and a get come in two pieces, cut within the set's data block. Of the
-- ---- set's answer three bytes are written at first.

-- the homes of the seats
abbrev pub talk_homes : List ℕ
talk_homes = 0 ∷ []

-- the set passes down the chain and back, and its reply is put
abbrev pub down_and_back : List ServingMove
down_and_back =
    Runs (Takes 0 (OfSeat 0)) ∷ Runs (Publishes 0) ∷ Runs (Puts 0 1) ∷ Runs (Arrives 0 1)
    ∷ Runs (Takes 1 (OfServer 0)) ∷ Runs (Publishes 1) ∷ Runs (Puts 1 0) ∷ Runs (Arrives 1 0)
    ∷ Runs (Takes 0 (OfServer 1)) ∷ Runs (Publishes 0) ∷ Runs (Replies 0 0) ∷ []

-- the head answers the get
abbrev pub at_the_head : List ServingMove
at_the_head = Runs (Takes 0 (OfSeat 0)) ∷ Runs (Publishes 0) ∷ Runs (Replies 0 0) ∷ []

-- the moves up to the get's reply
unfoldable pub talk_moves : List ServingMove
talk_moves =
    Reads 0 (codes "set a 0 0 1\r\np") ∷ Begins 0 ∷ Reads 0 (codes "\r\nget a\r\n") ∷ Begins 0 ∷ Asks 0
    ∷ (down_and_back ++ Answers 0 ∷ Writes 0 3 ∷ Begins 0 ∷ Asks 0 ∷ (at_the_head ++ Answers 0 ∷ []))

-- the rest is written, and the connection ends; of the next one a line comes that is no request
unfoldable pub last_moves : List ServingMove
last_moves = Writes 0 40 ∷ Ends 0 ∷ Reads 0 (codes "what\r\n") ∷ Begins 0 ∷ Writes 0 40 ∷ []

-- ---- The same two servers. A connection ends while its set has no reply. The seat's next connection asks for a
-- ---- delete, while the set's reply is put into the seat's queue.

-- the call of the delete
abbrev pub delete : Call
delete = record { target = One key; op = Delete }

-- the moves
unfoldable pub lost_moves : List ServingMove
lost_moves =
    Reads 0 (codes "set a 0 0 1\r\np\r\n") ∷ Begins 0 ∷ Asks 0 ∷ Ends 0
    ∷ (down_and_back ++ Reads 0 (codes "delete a\r\n") ∷ Begins 0 ∷ Asks 0 ∷ Answers 0 ∷ Writes 0 40 ∷ [])

-- ---- The same two servers. A set is refused, and then one that is silent; a get after them finds nothing.

-- the moves
unfoldable pub refused_moves : List ServingMove
refused_moves =
    Reads 0 (codes "set a 0 0 1\r\np\r\nset a 0 0 1 noreply\r\nq\r\nget a\r\n") ∷ Begins 0 ∷ Refuses 0 ∷ Begins 0
    ∷ Refuses 0 ∷ Begins 0 ∷ Asks 0 ∷ (at_the_head ++ Answers 0 ∷ Writes 0 60 ∷ [])

-- ---- One server, two clients of it. Of the first seat a connection sets and ends, and the next one sets again. Of the
-- ---- second seat the client sets a key of its own; that set is made before the last one, and waits when that is
-- ---- published.

-- the first seat's server answers its call
abbrev pub at_once : List ServingMove
at_once = Asks 0 ∷ Runs (Takes 0 (OfSeat 0)) ∷ Runs (Publishes 0) ∷ Runs (Replies 0 0) ∷ Answers 0 ∷ []

-- the moves
unfoldable pub turn_moves : List ServingMove
turn_moves =
    Reads 0 (codes "set a 0 0 1\r\np\r\n") ∷ Begins 0
    ∷ (at_once ++ Ends 0 ∷ Reads 1 (codes "set b 0 0 1\r\nq\r\n") ∷ Begins 1 ∷ Asks 1
    ∷ Reads 0 (codes "set a 0 0 1\r\np\r\n") ∷ Begins 0 ∷ at_once)

-- the set that is published first, and the other one
abbrev pub first_set : CallName
first_set = record { seat = 0; number = 1; ordinal = 0 }

abbrev pub second_set : CallName
second_set = record { seat = 1; number = 0; ordinal = 0 }
