-- Connections: what has come of a client's connection, as those who drive it see it.
use Rattle.std.specs.Prelude.{◌≡◌, ℕ, suc, Bool, true, false, not, List, [], ◌∷◌, ◌++◌, length, take, drop, Option}
use Rattle.std.specs.Prelude.{None, Some}
use Rattle.table.specs.Operations.{Fits, Suits, is_update, is_value}
use Rattle.table.specs.declared.operations.Call.{Call}
use Rattle.table.specs.declared.operations.Reply.{Reply}
use Rattle.proto.specs.declared.texts.Form.{Form}
use Rattle.proto.specs.Turns.{Turn, Outcome, calls_of, form_of, is_store}
use Rattle.proto.specs.Sessions.{Held, CanRefuse, IsFormOf}
use Rattle.proto.specs.Streams.{ends, outcome_texts, turns}
use Rattle.proto.specs.Runs.{IsRun, open_calls}
use Rattle.proto.specs.Ahead.{AreAhead, IsBetween, IsTakenAhead}
use Rattle.proto.specs.declared.ahead.Update.{Update}

-- What has come of a connection: the bytes that were read; the calls that have their replies or were refused, and
-- what each came to, in order; the calls that wait; the output that is due, and what was written before it; whether the
-- client has closed it, whether its input has ended, and whether memory was refused to it.
pub record Connected : Type 0 where
  pub read : List ℕ
  pub calls : List Call
  pub outcomes : List Outcome
  pub waiting : List Call
  pub due : List ℕ
  pub written : List ℕ
  pub closed : Bool
  pub ended : Bool
  pub failed : Bool

-- at first: nothing
abbrev pub unused : Connected
unused =
    record {
      read = [];
      calls = [];
      outcomes = [];
      waiting = [];
      due = [];
      written = [];
      closed = false;
      ended = false;
      failed = false;
    }

-- The calls are the first ones of these bytes, each with what it came to, and those that wait are the next. What was
-- written, and then what is due, is a beginning of the texts of their turns.
pub record IsBegun (c : Connected) (bytes : List ℕ) : Type 0 where
  pub rest : List ℕ
  pub answered : length c.calls ≡ length c.outcomes
  pub calls : c.calls ≡ take (length c.outcomes) (calls_of (turns bytes))
  pub waiting : c.waiting ≡ take (length c.waiting) (drop (length c.outcomes) (calls_of (turns bytes)))
  pub output : (c.written ++ c.due) ++ rest ≡ outcome_texts (turns bytes) c.outcomes

-- All calls of the bytes that were read have their replies or were refused, and all of their texts is written or due;
-- the client has closed the connection, or not, and so these bytes say.
pub record IsAnswered (shut : Bool) (c : Connected) : Type 0 where
  pub waiting : c.waiting ≡ []
  pub calls : c.calls ≡ calls_of (turns c.read)
  pub output : c.written ++ c.due ≡ outcome_texts (turns c.read) c.outcomes
  pub closed : c.closed ≡ shut
  pub ends : ends c.read ≡ shut

-- It was asked what it wants: nothing was read or written, no call got a reply or was refused, and lines may have
-- become due.
pub record IsLooked (c d : Connected) : Type 0 where
  pub lines : List ℕ
  pub read : d.read ≡ c.read
  pub calls : d.calls ≡ c.calls
  pub outcomes : d.outcomes ≡ c.outcomes
  pub due : d.due ≡ c.due ++ lines
  pub written : d.written ≡ c.written
  pub ended : d.ended ≡ c.ended

-- the call that waits longest may have this reply: an item, or none, exactly if it is a read
abbrev pub MayHave : List Call → Reply → Type 0
MayHave [] reply = ⊥
MayHave (call ∷ later) reply = is_value reply ≡ not (is_update call.op)

-- the call that waits longest may be refused: it stores
abbrev pub MayRefuse : List Call → Type 0
MayRefuse [] = ⊥
MayRefuse (call ∷ later) = is_store call.op ≡ true

-- The call that waits longest came to this, and its text is due.
abbrev pub HasOutcome : Outcome → Connected → Connected → Type 0
HasOutcome outcome c d =
    (call : Call) × (later : List Call) × (text : List ℕ) × (c.waiting ≡ call ∷ later)
    × (d ≡ record c {
      calls = c.calls ++ call ∷ [];
      outcomes = c.outcomes ++ outcome ∷ [];
      waiting = later;
      due = c.due ++ text;
    })

-- how many calls are open, with the updates that were taken ahead
abbrev pub calls_open : List Bool → Option Form → ℕ
calls_open [] asked = open_calls asked
calls_open (silent ∷ later) asked = suc (calls_open later asked)

-- what a session comes to, with the bytes that were read, what its calls came to, what was written, and, for each
-- update that was taken ahead, whether it is silent
abbrev pub reached : List ℕ → List Outcome → List ℕ → Held → List Bool → Bool → Bool → Connected
reached read outcomes written held ahead ended failed =
    record {
      read = read;
      calls = take (length outcomes) (calls_of (turns read));
      outcomes = outcomes;
      waiting = take (calls_open ahead held.asked) (drop (length outcomes) (calls_of (turns read)));
      due = held.out;
      written = written;
      closed = held.closed;
      ended = ended;
      failed = failed;
    }

-- the session waits for the answer to the call that waits, in the form of its operation
abbrev pub IsAsked : List Call → Option Form → Type 0
IsAsked [] asked = asked ≡ None
IsAsked (call ∷ later) asked = IsFormOf call.op asked

-- A run of the session has come to this.
pub record IsReached (read : List ℕ) (outcomes : List Outcome) (written : List ℕ) (held : Held) : Type 0 where
  pub given : List Turn
  pub is_run : IsRun (record { stream = read; given = given; outcomes = outcomes; taken = written; held = held })
  pub asked : IsAsked (take (open_calls held.asked) (drop (length outcomes) (calls_of (turns read)))) held.asked

-- if updates were taken ahead, an update is open, and the session is between two requests
abbrev pub MayBeAhead : List Bool → Held → Type 0
MayBeAhead [] held = Unit {0}
MayBeAhead (silent ∷ later) held = CanRefuse held.asked × IsBetween held

-- An update was taken ahead, as the last of these.
pub record WentAhead (call : Call) (held left : Held) (ahead longer : List Bool) : Type 0 where
  pub update : Update
  pub call_is : call ≡ update.call
  pub taken : IsTakenAhead update held left
  pub longer_is : longer ≡ ahead ++ update.silent ∷ []

-- the turn of the first of these has come: its call is open
abbrev pub resumed : Held → List Bool → Held × List Bool
resumed held [] = (held, [])
resumed held (silent ∷ later) = (record held { asked = Some (form_of silent) }, later)

-- The same, but for the updates that were taken ahead: their bytes, which are the next ones of the run, have left the
-- session.
pub record IsReachedAhead (read : List ℕ) (outcomes : List Outcome) (written : List ℕ) (held : Held)
    (ahead : List Bool) : Type 0 where
  pub bytes : List ℕ
  pub reached : IsReached read outcomes written (record held { unread = bytes ++ held.unread })
  pub taken : AreAhead ahead bytes
  pub may_be : MayBeAhead ahead held

-- if it is known to rest, all that was read is answered, whether or not the input has ended
abbrev pub IsResting : Bool → List ℕ → List Outcome → List ℕ → Held → List Bool → Type 0
IsResting rests read outcomes written held ahead =
    rests ≡ true
    → (ended failed : Bool)
    → IsAnswered false (reached read outcomes written held ahead ended failed)

-- the call that waits longest is an update
abbrev pub WaitsForUpdate : List Call → Type 0
WaitsForUpdate [] = ⊥
WaitsForUpdate (call ∷ later) = is_update call.op ≡ true

-- One more update waits, after those that waited, of which the first is an update too: it was taken ahead of its turn.
pub record IsAskedAhead (call : Call) (c d : Connected) : Type 0 where
  pub after : WaitsForUpdate c.waiting
  pub is : d ≡ record c { waiting = c.waiting ++ call ∷ [] }
  pub fits : Fits call.op
  pub suits : Suits call.target call.op
  pub update : is_update call.op ≡ true
