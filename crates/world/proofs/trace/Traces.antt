-- What a world forgets, in a record beside it: whole logs, which calls updates are, the committed entries, and the
-- reads that were answered.
use Rattle.std.proofs.Common.{ℕ, List, [], ◌∷◌, ◌++◌, length, replicate, Option, Some, None}
use Rattle.std.specs.Prelude.{slice_get, slice_index_or, slice_set}
use Rattle.table.specs.Items.{Item}
use Rattle.versions.specs.Entries.{LogEntry}
use Rattle.versions.specs.Stores.{last_number, value_at}
use Rattle.node.specs.declared.messages.Peer.{Peer}
use Rattle.node.specs.Views.{union, single, predecessor}
use Rattle.world.specs.Connections.{Connection}
use Rattle.world.specs.Worlds.{World, server, with_link, with_connection, opening_world, acted}
use Rattle.world.specs.Calls.{CallId}
use Rattle.node.specs.Actions.{Action, Append, Finish, Enter, Show, act}

-- A read that a server answered: which call, its key, the number of the entries after which it stands, and the item or
-- none.
pub record AnsweredRead : Type 0 where
  pub id : CallId
  pub key : List ℕ
  pub number : ℕ
  pub item : Option Item

-- A world with its past: each server's log from its first entry on; each server's own updates, the k-th being that of
-- id k + 1;
-- the committed entries; and the reads that were answered, in the order of their answers.
pub record Traced : Type 0 where
  pub world : World
  pub logs : List (List LogEntry)
  pub issued : List (List CallId)
  pub committed : List LogEntry
  pub reads : List AnsweredRead

-- the whole log of server i
unfoldable pub log : Traced → ℕ → List LogEntry
log t i = slice_index_or t.logs i []

-- the updates that server i issued, in the order of their ids
unfoldable pub issued_by : Traced → ℕ → List CallId
issued_by t i = slice_index_or t.issued i []

-- the servers of the chain
abbrev pub count : Traced → ℕ
count t = length t.world.servers

-- the greatest living server: the tail of the living
abbrev pub last_living : World → Option ℕ
last_living w = predecessor w.failed (length w.servers)

-- the committed entries: the log of the greatest living server; if none lives, what they were last
abbrev pub committed_by : Option ℕ → List (List LogEntry) → List LogEntry → List LogEntry
committed_by None logs before = before
committed_by (Some i) logs before = slice_index_or logs i []

-- the ordinal of a connection's open call
abbrev pub open_ordinal : Option Connection → ℕ
open_ordinal None = 0
open_ordinal (Some k) = length k.replies

-- the call that is open at a connection, by its name
abbrev pub open_id : World → ℕ → CallId
open_id w c = record { connection = c; ordinal = open_ordinal (slice_get w.connections c) }

-- the logs, the issued updates and the answered reads after an action of server i
abbrev pub logs_after : Traced → ℕ → Action → List (List LogEntry)
logs_after t i (Append e) = slice_set t.logs i (log t i ++ e ∷ [])
logs_after t i a = t.logs

-- the issued updates after an action: a call that enters is one more
abbrev pub issued_after : Traced → ℕ → Action → List (List CallId)
issued_after t i (Enter port call) = slice_set t.issued i (issued_by t i ++ open_id t.world port ∷ [])
issued_after t i a = t.issued

-- the answered reads after an action: an open read that is answered, or one of a clean key, is one more
abbrev pub reads_after : Traced → ℕ → Action → List AnsweredRead
reads_after t i (Finish r n) =
    t.reads ++ record
    { id = open_id t.world r.port; key = r.key; number = n; item = value_at (server t.world i).store r.key n } ∷ []
reads_after t i (Show port key) =
    t.reads ++ record {
      id = open_id t.world port;
      key = key;
      number = length t.committed;
      item = value_at (server t.world i).store key (last_number (server t.world i).store);
    } ∷ []
reads_after t i a = t.reads

-- server i does this
unfoldable pub done : Traced → ℕ → Action → Traced
done t i a = record {
  world = acted t.world i (act (server t.world i) a);
  logs = logs_after t i a;
  issued = issued_after t i a;
  committed = committed_by (last_living t.world) (logs_after t i a) t.committed;
  reads = reads_after t i a;
}

-- server i does these, in order
unfoldable pub all_done : Traced → ℕ → List Action → Traced
all_done t i [] = t
all_done t i (a ∷ later) = all_done (done t i a) i later

-- a connection changes
unfoldable pub reconnected : Traced → ℕ → (Connection → Connection) → Traced
reconnected t c change = record t { world = with_connection t.world c change }

-- a link's first message is taken off
unfoldable pub unlinked : Traced → ℕ → ℕ → List Peer → Traced
unlinked t i j ms = record t { world = with_link t.world i j ms }

-- server i fails
unfoldable pub failing : Traced → ℕ → Traced
failing t i =
    let w = record t.world { failed = union t.world.failed (single i) } in
    record t { world = w; committed = committed_by (last_living w) t.logs t.committed }

-- a chain before any event
abbrev pub outset : ℕ → List ℕ → Traced
outset n homes =
    record { world = opening_world n homes; logs = replicate n []; issued = replicate n []; committed = []; reads = [] }
