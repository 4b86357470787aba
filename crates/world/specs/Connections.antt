-- Connections: what a client's connection holds, and what each event at it does.
use Rattle.std.specs.Prelude.{ℕ, zero, suc, Bool, false, not, List, [], ◌∷◌, ◌++◌, length, Option, None, Some}
use Rattle.std.specs.Prelude.{slice_get, if◌then◌else◌}
use Rattle.table.specs.Operations.{is_update, is_value}
use Rattle.table.specs.declared.operations.Call.{Call}
use Rattle.table.specs.declared.operations.Reply.{Reply}
use Rattle.proto.specs.Turns.{Faulty, Calls}
use Rattle.proto.specs.Sessions.{Held, Given, fed, next_of, answered_by}
use Rattle.proto.specs.Sessions.{fresh as new_session}
use Rattle.proto.specs.Streams.{most_faults}
use Rattle.world.specs.declared.connections.Stage.{Stage}
use Rattle.world.specs.declared.connections.Stage.TheVariants.{Idle, Begun, Asked, Replied}

-- A connection: the server that it is at, what its session holds, its calls in the order in which they began,
-- the replies to the first of them, and where the open call stands.
pub record Connection : Type 0 where
  pub home : ℕ
  pub session : Held
  pub calls : List Call
  pub replies : List Reply
  pub stage : Stage

-- a connection before any event
abbrev pub fresh : ℕ → Connection
fresh home = record { home = home; session = new_session; calls = []; replies = []; stage = Idle }

-- bytes come; at a closed session they have no effect
abbrev pub came : List ℕ → Connection → Connection
came bytes k = record k { session = fed k.session bytes }

-- a turn that is no fault stays; after a fault is what comes later
abbrev pub behind : Given → Given → Given
behind (None, left) later = (None, left)
behind (Some (Faulty fault), left) later = later
behind (Some (Calls call form), left) later = (Some (Calls call form), left)

-- the next turn after the faults at the front, looking at n turns at most
abbrev pub past_faults_upto : ℕ → Held → Given
past_faults_upto zero h = (None, h)
past_faults_upto (suc n) h = behind (next_of h) (past_faults_upto n (next_of h).1)

-- the same after all of them
abbrev pub past_faults : Held → Given
past_faults h = past_faults_upto (suc (most_faults h)) h

-- a call that stands in turn begins
abbrev pub begun_by : Given → Connection → Connection
begun_by (None, left) k = record k { session = left }
begun_by (Some (Faulty fault), left) k = record k { session = left }
begun_by (Some (Calls call form), left) k = record k { session = left; calls = k.calls ++ call ∷ []; stage = Begun }

-- if no call is open, faults are passed and their texts written until a call stands in turn, which begins, or the
-- session closes, or no whole request is left (here and below, the first argument is the stage at which the connection
-- k stands)
abbrev pub begun : Stage → Connection → Connection
begun Idle k = begun_by (past_faults k.session) k
begun Begun k = k
begun Asked k = k
begun (Replied reply) k = k

-- the open call is the first without a reply
abbrev pub open_call : Connection → Option Call
open_call k = slice_get k.calls (length k.replies)

-- the call that was begun and not yet worked
abbrev pub to_work : Stage → Connection → Option Call
to_work Idle k = None
to_work Begun k = open_call k
to_work Asked k = None
to_work (Replied reply) k = None

-- the call is with its server
abbrev pub asked : Connection → Connection
asked k = record k { stage = Asked }

-- a call may have this reply: an item is shown exactly to a read
abbrev pub may_have : Option Call → Reply → Bool
may_have None reply = false
may_have (Some call) reply = if is_update call.op then not (is_value reply) else is_value reply

-- the server's reply to the call that is with it waits; no other reply has an effect
abbrev pub replied : Stage → Reply → Connection → Connection
replied Idle reply k = k
replied Begun reply k = k
replied Asked reply k = if may_have (open_call k) reply then record k { stage = Replied reply } else k
replied (Replied first) reply k = k

-- the waiting reply reaches the connection: the call is answered, and its text written
abbrev pub handed : Stage → Connection → Connection
handed Idle k = k
handed Begun k = k
handed Asked k = k
handed (Replied reply) k =
    record k { session = answered_by k.session.asked k.session reply; replies = k.replies ++ reply ∷ []; stage = Idle }

-- the c-th connection, if there is one, changes so
abbrev pub changed_at : List Connection → ℕ → (Connection → Connection) → List Connection
changed_at [] c change = []
changed_at (k ∷ ks) zero change = change k ∷ ks
changed_at (k ∷ ks) (suc c) change = k ∷ changed_at ks c change
