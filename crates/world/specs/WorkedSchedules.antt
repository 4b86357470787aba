-- Worked schedules: their events, what they show, and wrong orders of their calls.
use Rattle.std.specs.Prelude.{ℕ, false, true, List, [], ◌∷◌, ◌++◌, map, Some, None, codes}
use Rattle.table.specs.Items.{Item}
use Rattle.table.specs.declared.operations.Call.{Call}
use Rattle.table.specs.declared.operations.Op.TheVariants.{Read, Set, Incr}
use Rattle.table.specs.declared.operations.Reply.{Reply}
use Rattle.table.specs.declared.operations.Reply.TheVariants.{Stored, Number, Value}
use Rattle.table.specs.declared.operations.Target.TheVariants.{One}
use Rattle.world.specs.declared.events.Event.{Event}
use Rattle.world.specs.declared.events.Event.TheVariants.{Piece, Begin, Work, Deliver, Fail, Tell, Hand}
use Rattle.world.specs.Calls.{CallId}
use Rattle.world.specs.Orders.{OrderedCall}
use Rattle.world.specs.Transcripts.{TranscriptShown}

-- the p-th call of the c-th connection
abbrev pub name : ℕ → ℕ → CallId
name c p = record { connection = c; ordinal = p }

-- calls on one key
abbrev pub set_of : List ℕ → List ℕ → Call
set_of key bytes = record { target = One key; op = Set 0 bytes }

abbrev pub incr_of : List ℕ → Call
incr_of key = record { target = One key; op = Incr 1 }

abbrev pub get_of : List ℕ → Call
get_of key = record { target = One key; op = Read }

-- a call of an order
abbrev pub entry : CallId → Call → Reply → OrderedCall
entry x call reply = record { id = x; call = call; reply = reply }

-- the calls and replies of an order
abbrev pub said : List OrderedCall → List (Call × Reply)
said h = map (λ e. (e.call, e.reply)) h

-- ---- Three servers, two clients of the head. A get reads a key while the set of it is still on its way down the
-- chain.

abbrev pub dirty_homes : List ℕ
dirty_homes = 0 ∷ 0 ∷ []

unfoldable pub dirty_events : List Event
dirty_events =
    Piece 0 (codes "set a 0 0 1\r\np\r\n") ∷ Piece 1 (codes "get a\r\n") ∷ Begin 0 ∷ Work 0 ∷ Begin 1 ∷ Work 1
    ∷ Deliver 0 2 ∷ Deliver 2 0 ∷ Hand 1 ∷ []

-- the set is begun and not answered, and the get finds nothing
abbrev pub dirty_transcript : TranscriptShown
dirty_transcript = record {
  connections =
      record {
        home = 0;
        calls = record { target = One (codes "a"); op = Set 0 (codes "p"); reply = None } ∷ [];
        sent = [];
      }
      ∷ record {
        home = 0;
        calls = record { target = One (codes "a"); op = Read; reply = Some (Value None) } ∷ [];
        sent = codes "END\r\n";
      }
      ∷ [];
  quiet = false;
}

-- ---- Three servers, a client of the tail.
-- ---- The head takes an incr and fails before anyone has its entry;
-- ---- the tail sends the incr again, to the next head.

abbrev pub resent_homes : List ℕ
resent_homes = 2 ∷ []

-- the set is done; the head takes the incr and fails; the others are told, and the incr is sent again
unfoldable pub resent_before : List Event
resent_before =
    Piece 0 (codes "set n 0 0 1\r\n7\r\nincr n 1\r\nget n\r\n") ∷ Begin 0 ∷ Work 0 ∷ Deliver 2 0 ∷ Deliver 0 1
    ∷ Deliver 1 2
    ∷ Hand 0 ∷ Deliver 2 1 ∷ Deliver 1 0 ∷ Begin 0 ∷ Work 0 ∷ Deliver 2 0 ∷ Fail 0 ∷ Tell 1 0 ∷ Tell 2 0 ∷ []

-- the next head has taken it, and the get follows
unfoldable pub resent_behind : List Event
resent_behind = Deliver 1 2 ∷ Hand 0 ∷ Deliver 2 1 ∷ Begin 0 ∷ Work 0 ∷ Hand 0 ∷ []

abbrev pub resent_events : List Event
resent_events = resent_before ++ Deliver 2 1 ∷ resent_behind

-- what the get shows
abbrev pub eight : Item
eight = record { flags = 0; bytes = codes "8"; unique = 2 }

-- the incr acts once: the counter is one more
abbrev pub resent_transcript : TranscriptShown
resent_transcript = record {
  connections =
      record {
        home = 2;
        calls =
            record { target = One (codes "n"); op = Set 0 (codes "7"); reply = Some Stored }
            ∷ record { target = One (codes "n"); op = Incr 1; reply = Some (Number 8) }
            ∷ record { target = One (codes "n"); op = Read; reply = Some (Value (Some eight)) }
            ∷ [];
        sent = codes "STORED\r\n8\r\nVALUE n 0 1\r\n8\r\nEND\r\n";
      } ∷ [];
  quiet = false;
}

-- wrong: the incr once before the get that shows it, and once more after that
abbrev pub resent_twice : List OrderedCall
resent_twice =
    entry (name 0 0) (set_of (codes "n") (codes "7")) Stored
    ∷ entry (name 0 1) (incr_of (codes "n")) (Number 8)
    ∷ entry (name 0 2) (get_of (codes "n")) (Value (Some eight))
    ∷ entry (name 0 1) (incr_of (codes "n")) (Number 9)
    ∷ []

-- the one list of calls and replies that is right
abbrev pub resent_order : List (Call × Reply)
resent_order =
    (set_of (codes "n") (codes "7"), Stored) ∷ (incr_of (codes "n"), Number 8)
    ∷ (get_of (codes "n"), Value (Some eight)) ∷ []

-- ---- Three servers, a client of the middle one, both of whose neighbours fail.

abbrev pub alone_homes : List ℕ
alone_homes = 1 ∷ []

unfoldable pub alone_events : List Event
alone_events =
    Piece 0 (codes "set a 0 0 1\r\np\r\n") ∷ Begin 0 ∷ Work 0 ∷ Deliver 1 0 ∷ Fail 0 ∷ Fail 2 ∷ Tell 1 2 ∷ Deliver 0
    1 ∷ Hand 0
    ∷ Tell 1 0 ∷ []

-- the set is answered, and nothing waits
abbrev pub alone_transcript : TranscriptShown
alone_transcript = record {
  connections =
      record {
        home = 1;
        calls = record { target = One (codes "a"); op = Set 0 (codes "p"); reply = Some Stored } ∷ [];
        sent = codes "STORED\r\n";
      } ∷ [];
  quiet = true;
}

-- the one list of calls and replies that is right
abbrev pub alone_order : List (Call × Reply)
alone_order = (set_of (codes "a") (codes "p"), Stored) ∷ []

-- ---- Two servers, a client of the tail and one of the head. The first client's set is answered before the other's, on
-- ---- another key, begins.

abbrev pub sets_homes : List ℕ
sets_homes = 1 ∷ 0 ∷ []

unfoldable pub sets_events : List Event
sets_events =
    Piece 0 (codes "set a 0 0 1\r\np\r\n") ∷ Begin 0 ∷ Work 0 ∷ Deliver 1 0 ∷ Deliver 0 1 ∷ Hand 0
    ∷ Piece 1 (codes "set b 0 0 1\r\nq\r\n") ∷ Begin 1 ∷ Work 1 ∷ Deliver 0 1 ∷ Deliver 1 0 ∷ Deliver 1 0 ∷ Hand 1 ∷ []

-- both are answered, and nothing waits
abbrev pub sets_transcript : TranscriptShown
sets_transcript = record {
  connections =
      record {
        home = 1;
        calls = record { target = One (codes "a"); op = Set 0 (codes "p"); reply = Some Stored } ∷ [];
        sent = codes "STORED\r\n";
      }
      ∷ record {
        home = 0;
        calls = record { target = One (codes "b"); op = Set 0 (codes "q"); reply = Some Stored } ∷ [];
        sent = codes "STORED\r\n";
      }
      ∷ [];
  quiet = true;
}

-- wrong: the second set before the first, which a single table would answer so
abbrev pub sets_exchanged : List OrderedCall
sets_exchanged = entry (name 1 0) (set_of (codes "b") (codes "q")) Stored ∷ entry (name 0 0)
    (set_of (codes "a") (codes "p")) Stored ∷ []

-- ---- Two servers, two clients of the tail. Each client's set, on a key of its own, is on its way to the head before
-- ---- the other is answered.

abbrev pub flight_homes : List ℕ
flight_homes = 1 ∷ 1 ∷ []

unfoldable pub flight_events : List Event
flight_events =
    Piece 0 (codes "set a 0 0 1\r\np\r\n") ∷ Piece 1 (codes "set b 0 0 1\r\nq\r\n") ∷ Begin 0 ∷ Begin 1 ∷ Work 0 ∷ Work 1
    ∷ Deliver 1 0 ∷ Deliver 1 0 ∷ Deliver 0 1 ∷ Deliver 0 1 ∷ Hand 0 ∷ Hand 1 ∷ Deliver 1 0 ∷ Deliver 1 0 ∷ []

-- both are answered, and nothing waits
abbrev pub flight_transcript : TranscriptShown
flight_transcript = record {
  connections =
      record {
        home = 1;
        calls = record { target = One (codes "a"); op = Set 0 (codes "p"); reply = Some Stored } ∷ [];
        sent = codes "STORED\r\n";
      }
      ∷ record {
        home = 1;
        calls = record { target = One (codes "b"); op = Set 0 (codes "q"); reply = Some Stored } ∷ [];
        sent = codes "STORED\r\n";
      }
      ∷ [];
  quiet = true;
}
