-- Worked runs: their moves, and what they come to.
use Rattle.std.specs.Prelude.{ℕ, List, [], ◌∷◌, ◌++◌, Option, codes}
use Rattle.table.specs.Items.{Item}
use Rattle.table.specs.declared.operations.Call.{Call}
use Rattle.node.specs.declared.messages.Input.{Input}
use Rattle.node.specs.declared.messages.Output.{Output}
use Rattle.world.specs.WorkedSchedules.{set_of}
use Rattle.interleavings.specs.Chains.{Chain, OfSeat, OfServer, OfNotices}
use Rattle.interleavings.specs.Moves.{Move, Sends, Takes, Publishes, Puts, Arrives, Replies, Receives, Looks, Stops}
use Rattle.interleavings.specs.Moves.{Notices}

-- the one key of these runs
abbrev pub key : List ℕ
key = codes "a"

-- the one set
abbrev pub set : Call
set = set_of key (codes "p")

-- what a get finds after it
abbrev pub item : Item
item = record { flags = 0; bytes = codes "p"; unique = 1 }

-- ---- Two servers, a client of the head. A set passes down the chain and back.

-- the homes of the seats
abbrev pub set_homes : List ℕ
set_homes = 0 ∷ []

-- the moves
unfoldable pub set_moves : List Move
set_moves =
    Sends 0 set ∷ Takes 0 (OfSeat 0) ∷ Publishes 0 ∷ Puts 0 1 ∷ Arrives 0 1 ∷ Takes 1 (OfServer 0) ∷ Publishes 1
    ∷ Puts 1 0 ∷ Arrives 1 0 ∷ Takes 0 (OfServer 1) ∷ Publishes 0 ∷ Replies 0 0 ∷ Receives 0 ∷ []

-- ---- Two servers, two clients of the head. The head takes a set, so the key is dirty there, and a look shows nothing
-- ---- of it. The tail stops; the head is told, and is the tail too; the set is answered, and a look shows its item.

-- the homes of the seats
abbrev pub failover_homes : List ℕ
failover_homes = 0 ∷ 0 ∷ []

-- the head takes the set
unfoldable pub set_is_taken : List Move
set_is_taken = Sends 0 set ∷ Takes 0 (OfSeat 0) ∷ Publishes 0 ∷ []

-- the tail stops, the head is told, and the set is answered
unfoldable pub tail_stops : List Move
tail_stops = Stops 1 ∷ Notices 0 1 ∷ Takes 0 OfNotices ∷ Publishes 0 ∷ Replies 0 0 ∷ Receives 0 ∷ []

-- the moves up to the first look
abbrev pub look_while_dirty : List Move
look_while_dirty = set_is_taken ++ Looks 1 key ∷ []

-- all moves
abbrev pub failover_moves : List Move
failover_moves = set_is_taken ++ Looks 1 key ∷ (tail_stops ++ Looks 1 key ∷ [])

-- ---- Two servers, a client of the head. The tail commits a set and stops before it has put the acknowledgement. The
-- ---- head is told, and answers.

-- the tail has the set, and has published the step that commits it
unfoldable pub set_is_committed : List Move
set_is_committed =
    Sends 0 set ∷ Takes 0 (OfSeat 0) ∷ Publishes 0 ∷ Puts 0 1 ∷ Arrives 0 1 ∷ Takes 1 (OfServer 0) ∷ Publishes 1 ∷ []

-- all moves
abbrev pub cut_moves : List Move
cut_moves = set_is_committed ++ tail_stops

-- ---- One server, two clients of it. The second one's set, on a key of its own, is sent first and published last;
-- ---- neither is answered before the other is sent.

-- the second one's set
abbrev pub other_set : Call
other_set = set_of (codes "b") (codes "q")

-- the homes of the seats
abbrev pub flight_homes : List ℕ
flight_homes = 0 ∷ 0 ∷ []

-- the moves
unfoldable pub flight_moves : List Move
flight_moves =
    Sends 1 other_set ∷ Sends 0 set ∷ Takes 0 (OfSeat 0) ∷ Publishes 0 ∷ Takes 0 (OfSeat 1) ∷ Publishes 0 ∷ Replies 0 0
    ∷ Receives 0 ∷ Replies 0 1 ∷ Receives 1 ∷ []

-- ---- Three runs in which a set is answered, and a look that begins afterwards shows nothing of it. Each needs a move
-- ---- that lacks its rule (`WrongMoves.antt`).

-- one server: the look shows the face with which it opened
abbrev pub older_homes : List ℕ
older_homes = 0 ∷ 0 ∷ []

-- the moves before that look
unfoldable pub before_older_look : List Move
before_older_look = Sends 0 set ∷ Takes 0 (OfSeat 0) ∷ Publishes 0 ∷ Replies 0 0 ∷ Receives 0 ∷ []

-- two servers: the head's forward reaches the tail before the head has published, and the look is at the head
abbrev pub early_homes : List ℕ
early_homes = 1 ∷ 0 ∷ []

-- the moves before that look
unfoldable pub before_unpublished_look : List Move
before_unpublished_look =
    Sends 0 set ∷ Takes 1 (OfSeat 0) ∷ Publishes 1 ∷ Puts 1 0 ∷ Arrives 1 0 ∷ Takes 0 (OfServer 1) ∷ Puts 0 1
    ∷ Arrives 0 1 ∷ Takes 1 (OfServer 0) ∷ Publishes 1 ∷ Replies 1 0 ∷ Receives 0 ∷ []

-- two servers: the head is told that the tail has stopped, which goes on, and the look is at the tail
abbrev pub told_homes : List ℕ
told_homes = 0 ∷ 1 ∷ []

-- the moves before that look
unfoldable pub before_outlived_look : List Move
before_outlived_look =
    Notices 0 1 ∷ Takes 0 OfNotices ∷ Publishes 0 ∷ Sends 0 set ∷ Takes 0 (OfSeat 0) ∷ Publishes 0 ∷ Replies 0 0
    ∷ Receives 0 ∷ []

-- ---- Two servers, a client of the head, and channels that leave out a message: the forward of its set.

-- the moves
unfoldable pub lossy_moves : List Move
lossy_moves = Sends 0 set ∷ Takes 0 (OfSeat 0) ∷ Publishes 0 ∷ Puts 0 1 ∷ Arrives 0 1 ∷ []

-- what server i has still to do: its inbox, its unpublished input, its outbox
abbrev pub left_to_do : Chain → ℕ → List Input × Option Input × List Output
left_to_do l i = ((l.servers i).inbox, (l.servers i).unpublished, (l.servers i).outbox)
