-- Worked runs of a client that has two sets in flight: their moves.
use Rattle.std.specs.Prelude.{ℕ, List, [], ◌∷◌, ◌++◌, map, codes}
use Rattle.interleavings.specs.Chains.{OfSeat}
use Rattle.interleavings.specs.Moves.{Takes, Publishes, Replies}
use Rattle.interleavings.specs.ServingMoves.{ServingMove, Reads, Begins, Asks, Answers, Writes, Runs}
use Rattle.interleavings.specs.Served.{CallName}
use Rattle.interleavings.specs.Rows.{PartName}
use Rattle.interleavings.specs.FreePorts.{PortChoice}
use Rattle.interleavings.specs.Pools.{PooledMove, Serves}
use Rattle.interleavings.specs.Senders.{Senders, PortSenders}

-- ---- One server, and a client that sends two sets at once. The second one goes ahead while the first one is open, so
-- ---- it is of another part.

-- the two sets, as they are read
abbrev pub first_bytes : List ℕ
first_bytes = codes "set a 0 0 1\r\np\r\n"

abbrev pub second_bytes : List ℕ
second_bytes = codes "set b 0 0 1\r\nq\r\n"

-- the parts
abbrev pub first_part : PartName
first_part = record { seat = 0; number = 0 }

abbrev pub second_part : PartName
second_part = record { seat = 1; number = 0 }

abbrev pub two_parts : List PartName
two_parts = first_part ∷ second_part ∷ []

-- the calls
abbrev pub first_call : CallName
first_call = record { seat = 0; number = 0; ordinal = 0 }

abbrev pub second_call : CallName
second_call = record { seat = 1; number = 0; ordinal = 0 }

-- both are made
abbrev pub both_made : List ServingMove
both_made =
    Reads 0 first_bytes ∷ Begins 0 ∷ Asks 0 ∷ Reads 1 second_bytes ∷ Begins 1 ∷ Asks 1 ∷ []

-- the server takes a call of seat c, and publishes its step
abbrev pub steps_for : ℕ → List ServingMove
steps_for c = Runs (Takes 0 (OfSeat c)) ∷ Runs (Publishes 0) ∷ []

-- the second set's reply comes first, and its line waits for that of the first one
abbrev pub both_answered : List ServingMove
both_answered =
    Runs (Replies 0 1) ∷ Answers 1 ∷ Runs (Replies 0 0) ∷ Answers 0 ∷ Writes 0 40 ∷ Writes 1 40 ∷ []

-- the moves
unfoldable pub pipelined_moves : List ServingMove
pipelined_moves = both_made ++ (steps_for 0 ++ (steps_for 1 ++ both_answered))

-- ---- The same, but the server takes the second set first.

-- the moves
unfoldable pub overtaken_moves : List ServingMove
overtaken_moves = both_made ++ (steps_for 1 ++ (steps_for 0 ++ both_answered))

-- ---- By which sender the two seats send.

-- both by one
abbrev pub one_sender : Senders
one_sender c = 0

-- each by one of its own
abbrev pub two_senders : Senders
two_senders c = c

-- ---- The same run with free ports: each seat chooses the port of its own number.

-- the port of each call
abbrev pub own_number : PortChoice
own_number c ordinal = c

-- both ports are of one sender
abbrev pub one_port_sender : PortSenders
one_port_sender i port = 0

-- the moves
abbrev pub pooled_moves : List PooledMove
pooled_moves = map Serves pipelined_moves
