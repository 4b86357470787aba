-- Worked runs of servers with leases: their moves.
use Rattle.std.specs.Prelude.{ℕ, List, [], ◌∷◌, ◌++◌, map, codes}
use Rattle.interleavings.specs.Chains.{OfSeat, OfServer, OfNotices}
use Rattle.interleavings.specs.Moves.{Move, Sends, Takes, Publishes, Puts, Arrives, Replies, Receives, Looks, Notices}
use Rattle.interleavings.specs.Moves.{read_of}
use Rattle.interleavings.specs.LeasedMoves.{LeasedMove, Does, Calls, Writes}
use Rattle.interleavings.specs.ServingMoves.{ServingMove, Reads, Begins, Asks, Answers, Writes as WritesOut, Runs}
use Rattle.interleavings.specs.LeasedServing.{LeasedServingMove, Serves, CallsGone}
use Rattle.interleavings.specs.WorkedRuns.{key, set, other_set, before_outlived_look}

-- ---- Two servers. The lease of the tail is over, and it is called gone. The head is told, so it is the tail too, and
-- ---- answers a set.

-- the moves
unfoldable pub tail_is_called : List LeasedMove
tail_is_called = Calls 1 ∷ map Does before_outlived_look ++ Writes 0 ∷ []

-- ---- The tail goes on: it takes a set of a client of its own, publishes its step, puts its message to the head onto
-- ---- the channel, and a client looks there. Nothing of that is written, and the message doesn't arrive.

-- the homes of the seats
abbrev pub lapsed_homes : List ℕ
lapsed_homes = 0 ∷ 1 ∷ 1 ∷ []

-- its moves before the look
unfoldable pub tail_goes_on : List LeasedMove
tail_goes_on = Does (Sends 2 other_set) ∷ Does (Takes 1 (OfSeat 2)) ∷ Does (Publishes 1) ∷ Does (Puts 1 0) ∷ []

-- all moves before the look
abbrev pub before_lapsed_look : List LeasedMove
before_lapsed_look = tail_is_called ++ tail_goes_on

-- all moves
abbrev pub lapsed_moves : List LeasedMove
lapsed_moves = before_lapsed_look ++ Does (Looks 1 key) ∷ []

-- ---- The same without that set, and the client that looks is written what it shows.

-- the moves
abbrev pub late_write_moves : List LeasedMove
late_write_moves = tail_is_called ++ Does (Looks 1 key) ∷ Writes 1 ∷ []

-- ---- Three servers. The one in the middle has a set of its own, which the head has passed back to it. The tail is
-- ---- called gone; the middle one is told, is the tail now, and answers the set. The head, which isn't told, answers a
-- ---- get: it asks the old tail, whose answer arrives.

-- the homes of the seats
abbrev pub late_homes : List ℕ
late_homes = 1 ∷ 0 ∷ []

-- the set is passed up to the head and back
unfoldable pub set_is_passed : List Move
set_is_passed =
    Sends 0 set ∷ Takes 1 (OfSeat 0) ∷ Publishes 1 ∷ Puts 1 0 ∷ Arrives 1 0 ∷ Takes 0 (OfServer 1) ∷ Publishes 0
    ∷ Puts 0 1 ∷ Arrives 0 1 ∷ []

-- the middle one is told, and answers it
unfoldable pub middle_is_told : List Move
middle_is_told =
    Notices 1 2 ∷ Takes 1 OfNotices ∷ Publishes 1 ∷ Takes 1 (OfServer 0) ∷ Publishes 1 ∷ Replies 1 0 ∷ Receives 0 ∷ []

-- the head asks the old tail
unfoldable pub head_asks : List Move
head_asks =
    Sends 1 (read_of key) ∷ Takes 0 (OfSeat 1) ∷ Publishes 0 ∷ Puts 0 2 ∷ Arrives 0 2 ∷ Takes 2 (OfServer 0)
    ∷ Publishes 2 ∷ []

-- the old tail's answer arrives, and the head answers
unfoldable pub answer_is_late : List Move
answer_is_late =
    Puts 2 0 ∷ Arrives 2 0 ∷ Takes 0 (OfServer 2) ∷ Publishes 0 ∷ Replies 0 1 ∷ Receives 1 ∷ []

-- the moves before the get
unfoldable pub before_late_get : List LeasedMove
before_late_get = map Does set_is_passed ++ Calls 2 ∷ map Does middle_is_told ++ Writes 0 ∷ []

-- all moves
abbrev pub late_message_moves : List LeasedMove
late_message_moves = before_late_get ++ (map Does head_asks ++ map Does answer_is_late ++ Writes 1 ∷ [])

-- ---- The two servers of the first run serve connections. The tail is called gone, the head is told, and is the tail
-- ---- too; a client sets there and is written the answer. A client of the old tail asks it for the same key, and its
-- ---- session makes up an answer that isn't written.

-- the homes of the seats
abbrev pub serving_homes : List ℕ
serving_homes = 0 ∷ 1 ∷ []

-- the head is told, and answers the set
unfoldable pub head_serves : List ServingMove
head_serves =
    Runs (Notices 0 1) ∷ Runs (Takes 0 OfNotices) ∷ Runs (Publishes 0) ∷ Reads 0 (codes "set a 0 0 1\r\np\r\n")
    ∷ Begins 0 ∷ Asks 0 ∷ Runs (Takes 0 (OfSeat 0)) ∷ Runs (Publishes 0) ∷ Runs (Replies 0 0) ∷ Answers 0
    ∷ WritesOut 0 40 ∷ []

-- the old tail answers the get, but for the writing
unfoldable pub old_tail_serves : List ServingMove
old_tail_serves =
    Reads 1 (codes "get a\r\n") ∷ Begins 1 ∷ Asks 1 ∷ Runs (Takes 1 (OfSeat 1)) ∷ Runs (Publishes 1)
    ∷ Runs (Replies 1 1) ∷ Answers 1 ∷ []

-- all moves
unfoldable pub serving_moves : List LeasedServingMove
serving_moves = CallsGone 1 ∷ map Serves (head_serves ++ old_tail_serves)
