-- What every traced world of a run keeps, in layers: addresses, logs, calls and answered reads; and what only grows.
use Rattle.std.proofs.Common.{◌≡◌, ◌≢◌, ℕ, suc, ◌+◌, ◌-◌, ◌<◌, ◌≤◌, true, false, List, [], ◌∷◌, length, take, drop}
use Rattle.std.proofs.Common.{Some, None, ◌⊎◌}
use Rattle.std.specs.Prelude.{slice_get, IsSome, if◌then◌else◌, ◌==◌}
use Rattle.table.specs.Operations.{is_update}
use Rattle.table.specs.Decisions.{decision}
use Rattle.table.specs.declared.operations.Call.{Call}
use Rattle.table.specs.declared.operations.Reply.{Reply}
use Rattle.table.specs.declared.operations.Reply.TheVariants.{Value}
use Rattle.table.specs.declared.operations.Target.TheVariants.{One}
use Rattle.table.specs.Plain.{item_at, item_of, opening as opening_table}
use Rattle.versions.specs.Entries.{LogEntry, IsEntry}
use Rattle.versions.specs.Stores.{StoreState, items_after}
use Rattle.node.specs.declared.servers.OpenUpdate.{OpenUpdate}
use Rattle.node.specs.declared.servers.OpenRead.{OpenRead}
use Rattle.node.specs.declared.messages.Body.{Body}
use Rattle.node.specs.declared.messages.Body.TheVariants.{Op, Forward, Ack, Query, Answer}
use Rattle.node.specs.declared.messages.Peer.{Peer}
use Rattle.node.specs.declared.messages.Input.TheVariants.{Call as Called, From, Gone}
use Rattle.node.specs.Views.{View, has}
use Rattle.node.specs.Servers.{seen_of}
use Rattle.node.specs.Lawful.{IsCall, IsBody, HasEntry}
use Rattle.world.specs.declared.connections.Stage.TheVariants.{Asked, Replied}
use Rattle.world.specs.Connections.{Connection, open_call}
use Rattle.world.specs.Worlds.{server, link, lives}
use Rattle.world.specs.Calls.{CallId, begun_call, reply_to}
use Rattle.node.proofs.Lists.{In, Begins}
use Rattle.node.specs.Actions.{Cause}
use Rattle.world.proofs.trace.Traces.{Traced, AnsweredRead, log, issued_by, count, last_living, open_id}

-- What was known is known still.
pub record Later (t u : Traced) : Type 0 where
  pub count : count u ≡ count t
  pub failed : (k : ℕ) → has t.world.failed k ≡ true → has u.world.failed k ≡ true
  pub views : (i k : ℕ) → has (server t.world i).view k ≡ true → has (server u.world i).view k ≡ true
  pub acks : (i : ℕ) → (server t.world i).store.acked ≤ (server u.world i).store.acked
  pub ids : (i : ℕ) → (server t.world i).next_id ≤ (server u.world i).next_id
  pub asks : (i : ℕ) → (server t.world i).next_ask ≤ (server u.world i).next_ask
  pub logs : (i : ℕ) → Begins (log t i) (log u i)
  pub issued : (i : ℕ) → Begins (issued_by t i) (issued_by u i)
  pub committed : Begins t.committed u.committed
  pub reads : Begins t.reads u.reads
  pub calls : (x : CallId) (call : Call) → begun_call t.world x ≡ Some call → begun_call u.world x ≡ Some call
  pub replies : (x : CallId) (reply : Reply) → reply_to t.world x ≡ Some reply → reply_to u.world x ≡ Some reply

-- ---- shapes and addresses

-- to whom a body goes, by the view that it is sent with
abbrev pub Goes : ℕ → ℕ → View → ℕ → Body → Type 0
Goes i j v n (Op id call) = (j < i) × ((x : ℕ) → x < j → has v x ≡ true)
Goes i j v n (Forward e) = (i < j) × ((x : ℕ) → i < x → x < j → has v x ≡ true)
Goes i j v n (Ack m) = (j < i) × ((x : ℕ) → j < x → x < i → has v x ≡ true)
Goes i j v n (Query ask key) = (i < j) × ((x : ℕ) → j < x → x < n → has v x ≡ true)
Goes i j v n (Answer ask m) = (j < i) × ((x : ℕ) → i < x → x < n → has v x ≡ true)

-- a message on the link from i to j
pub record IsAddressed (t : Traced) (i j : ℕ) (m : Peer) : Type 0 where
  pub sender : i < count t
  pub receiver : j < count t
  pub part : (k : ℕ) → has m.view k ≡ true → has (server t.world i).view k ≡ true
  pub apart : has m.view i ≡ false
  pub to : has m.view j ≡ false
  pub goes : Goes i j m.view (count t) m.body
  pub fit : IsBody m.body
  pub entry : HasEntry m.body

-- shapes: how many servers, links and logs there are, whom servers know to have failed, where messages go
pub record Framed (t : Traced) : Type 0 where
  pub most : count t ≤ 16
  pub rows : length t.world.links ≡ count t
  pub row : (i : ℕ) (ms : List (List Peer)) → slice_get t.world.links i ≡ Some ms → length ms ≡ count t
  pub logs : length t.logs ≡ count t
  pub issued : length t.issued ≡ count t
  pub id : (i : ℕ) → i < count t → (server t.world i).id ≡ i
  pub chain : (i : ℕ) → i < count t → (server t.world i).count ≡ count t
  pub own : (i : ℕ) → i < count t → has (server t.world i).view i ≡ false
  pub known : (i k : ℕ) → i < count t → has (server t.world i).view k ≡ true → has t.world.failed k ≡ true
  pub sound : (i j : ℕ) (m : Peer) → In m (link t.world i j) → IsAddressed t i j m
  pub calls : (c p : ℕ) (k : Connection) (call : Call)
      → slice_get t.world.connections c ≡ Some k
      → slice_get k.calls p ≡ Some call
      → IsCall call

-- ---- logs and commit numbers

-- the store is that of this log: its base is made of the entries up to the floor, its rest is what comes after
pub record Holds (es : List LogEntry) (s : StoreState) : Type 0 where
  pub within : s.floor ≤ length es
  pub base : s.base ≡ items_after opening_table.items (take s.floor es)
  pub rest : s.rest ≡ drop s.floor es
  pub floor : s.floor ≤ s.acked
  pub acked : s.acked ≤ length es
  pub numbered : (k : ℕ) (e : LogEntry) → slice_get es k ≡ Some e → (e.number ≡ k + 1) × IsEntry e

-- what a message carries of logs and commit numbers
abbrev pub Carries : Traced → ℕ → View → Body → Type 0
Carries t i v (Op id call) = Unit {0}
Carries t i v (Forward e) =
    (1 ≤ e.number) × (slice_get (log t i) (e.number - 1) ≡ Some e)
    × ((k : ℕ) → k < i → has v k ≡ false → slice_get (log t k) (e.number - 1) ≡ Some e)
Carries t i v (Ack n) =
    (n ≤ (server t.world i).store.acked)
    × ((k : ℕ) → i < k → k < count t → has v k ≡ false → n ≤ (server t.world k).store.acked)
Carries t i v (Query ask key) = Unit {0}
Carries t i v (Answer ask n) = n ≤ length t.committed

-- each store is that of its log, later logs begin earlier ones, and every living log begins with the committed entries
pub record Logged (t : Traced) : Type 0 where
  pub holds : (i : ℕ) → i < count t → Holds (log t i) (server t.world i).store
  pub begins : (i j : ℕ) → i < j → j < count t → has (server t.world j).view i ≡ false → Begins (log t j) (log t i)
  pub acks : (i j : ℕ)
      → i < j
      → j < count t
      → has (server t.world i).view j ≡ false
      → (server t.world i).store.acked ≤ (server t.world j).store.acked
  pub last : (i : ℕ) → last_living t.world ≡ Some i → t.committed ≡ log t i
  pub source : (t.committed ≡ []) ⊎ ((i : ℕ) × (i < count t) × (t.committed ≡ log t i))
  pub within : (i : ℕ) → i < count t → (server t.world i).store.acked ≤ length t.committed
  pub living : (i : ℕ) → lives t.world i ≡ true → Begins t.committed (log t i)
  pub numbered : (k : ℕ) (e : LogEntry) → slice_get t.committed k ≡ Some e → (e.number ≡ k + 1) × IsEntry e
  pub carries : (i j : ℕ) (m : Peer) → In m (link t.world i j) → Carries t i m.view m.body

-- ---- calls: which update an entry is, and what stands in the open lists of servers

-- how many entries of this origin there are
unfoldable pub entries_of : ℕ → List LogEntry → ℕ
entries_of o [] = 0
entries_of o (e ∷ es) = if e.origin == o then suc (entries_of o es) else entries_of o es

-- the entry is that of this call
abbrev pub IsNamed : Traced → LogEntry → CallId → Type 0
IsNamed t e x = (1 ≤ e.id) × (slice_get (issued_by t e.origin) (e.id - 1) ≡ Some x)

-- an update with this origin and id was issued, and asks this
pub record IsIssued (t : Traced) (origin id : ℕ) (call : Call) : Type 0 where
  pub name : CallId
  pub low : 1 ≤ id
  pub issued : slice_get (issued_by t origin) (id - 1) ≡ Some name
  pub begun : begun_call t.world name ≡ Some call
  pub update : is_update call.op ≡ true

-- the k-th entry of a log is what its call decides on the items that the entries before it leave
pub record IsDecided (t : Traced) (es : List LogEntry) (k : ℕ) (e : LogEntry) : Type 0 where
  pub call : Call
  pub issued : IsIssued t e.origin e.id call
  pub target : e.target ≡ call.target
  pub decided : decision (item_of (items_after opening_table.items (take k es)) e.target) call.op (k + 1)
      ≡ (e.reply, e.change)

-- the connection c is at server i, and this call of it is with its server
pub record IsWith (t : Traced) (i c : ℕ) (call : Call) : Type 0 where
  pub connection : Connection
  pub here : slice_get t.world.connections c ≡ Some connection
  pub home : connection.home ≡ i
  pub stage : connection.stage ≡ Asked
  pub asked : open_call connection ≡ Some call

-- what a call was answered: an update by its committed entry, a read by its number
abbrev pub IsAnswer : Traced → CallId → Reply → Type 0
IsAnswer t x reply =
    ((k : ℕ) × (e : LogEntry) × (slice_get t.committed k ≡ Some e) × IsNamed t e x × (e.reply ≡ reply))
    ⊎ ((k : ℕ) × (r : AnsweredRead) × (slice_get t.reads k ≡ Some r) × (r.id ≡ x) × (Value r.item ≡ reply))

-- what a message carries of calls: an `Op` is an update that its sender issued
abbrev pub Asks : Traced → ℕ → Body → Type 0
Asks t i (Op id call) = IsIssued t i id call
Asks t i (Forward e) = Unit {0}
Asks t i (Ack n) = Unit {0}
Asks t i (Query ask key) = Unit {0}
Asks t i (Answer ask n) = Unit {0}

-- which update each entry is, which open call each open update or read is, and what replies are answers to
pub record Calling (t : Traced) : Type 0 where
  -- an issued update is a begun call of a connection at its origin, and no longer the one that would be issued next
  pub begun : (o k : ℕ) (x : CallId) → slice_get (issued_by t o) k ≡ Some x
      → (call : Call) × (c : Connection) × (begun_call t.world x ≡ Some call) × (is_update call.op ≡ true)
      × (slice_get t.world.connections x.connection ≡ Some c) × (c.home ≡ o)
      × ((x.ordinal < length c.replies)
      ⊎ ((x.ordinal ≡ length c.replies) × ((c.stage ≡ Asked) ⊎ ((reply : Reply) × (c.stage ≡ Replied reply)))))
  pub next_id : (o : ℕ) → o < count t → (server t.world o).next_id ≡ length (issued_by t o) + 1
  pub once : (o p k l : ℕ) (x : CallId)
      → slice_get (issued_by t o) k ≡ Some x
      → slice_get (issued_by t p) l ≡ Some x
      → (o ≡ p) × (k ≡ l)
  -- in each log the ids of an origin are 1, 2, 3 and so on, and their count is what was seen
  pub ids : (i k : ℕ) (e : LogEntry)
      → slice_get (log t i) k ≡ Some e
      → e.id ≡ entries_of e.origin (take k (log t i)) + 1
  pub seen : (i o : ℕ) → i < count t → o < 16 → seen_of (server t.world i) o ≡ entries_of o (log t i)
  pub decided : (i k : ℕ) (e : LogEntry) → slice_get (log t i) k ≡ Some e → IsDecided t (log t i) k e
  -- the open updates and reads of a server are open calls of connections at it
  pub pend : (i : ℕ) (u : OpenUpdate) → i < count t → In u (server t.world i).pend
      → (1 ≤ u.id) × (slice_get (issued_by t i) (u.id - 1) ≡ Some (open_id t.world u.port)) × IsWith t i u.port u.call
  pub asks : (i : ℕ) (r : OpenRead) → i < count t → In r (server t.world i).asks
      → (call : Call) × IsWith t i r.port call × (call.target ≡ One r.key) × (is_update call.op ≡ false)
  pub alone : (i : ℕ) (r q : OpenRead)
      → i < count t
      → In r (server t.world i).asks
      → In q (server t.world i).asks
      → r.port ≡ q.port
      → r ≡ q
  -- replies, handed and waiting, are those of committed entries and of answered reads
  pub handed : (x : CallId) (reply : Reply) → reply_to t.world x ≡ Some reply → IsAnswer t x reply
  pub waiting : (c : ℕ) (k : Connection) (reply : Reply)
      → slice_get t.world.connections c ≡ Some k
      → k.stage ≡ Replied reply
      → IsAnswer t (record { connection = c; ordinal = length k.replies }) reply
  pub issues : (i j : ℕ) (m : Peer) → In m (link t.world i j) → Asks t i m.body

-- ---- answered reads

-- an answered read: it shows what the first committed entries of its number leave, and its call isn't open any more
pub record IsRead (t : Traced) (r : AnsweredRead) : Type 0 where
  pub call : Call
  pub connection : Connection
  pub begun : begun_call t.world r.id ≡ Some call
  pub read : is_update call.op ≡ false
  pub target : call.target ≡ One r.key
  pub number : r.number ≤ length t.committed
  pub item : r.item ≡ item_at (items_after opening_table.items (take r.number t.committed)) r.key
  -- its call isn't with its server any more
  pub here : slice_get t.world.connections r.id.connection ≡ Some connection
  pub over : (r.id.ordinal < length connection.replies)
      ⊎ ((r.id.ordinal ≡ length connection.replies) × (reply : Reply) × (connection.stage ≡ Replied reply))

-- each answered read is one, and none is answered twice
pub record Read (t : Traced) : Type 0 where
  pub reads : (k : ℕ) (r : AnsweredRead) → slice_get t.reads k ≡ Some r → IsRead t r
  pub once : (j k : ℕ) (r q : AnsweredRead)
      → slice_get t.reads j ≡ Some r
      → slice_get t.reads k ≡ Some q
      → r.id ≡ q.id
      → j ≡ k

-- ---- what came after a moment

-- u, a later moment than t: a committed entry of a call that wasn't begun at t stands after those committed at t,
-- and a read that wasn't begun at t has no lower number
pub record Newer (t u : Traced) : Type 0 where
  pub entries : (k : ℕ) (e : LogEntry)
      → slice_get u.committed k ≡ Some e
      → ((x : CallId) × IsNamed t e x) ⊎ (length t.committed ≤ k)
  pub answers : (k : ℕ) (r : AnsweredRead)
      → slice_get u.reads k ≡ Some r
      → IsSome (begun_call t.world r.id) ⊎ (length t.committed ≤ r.number)

-- ---- all together, and what is known of an input

-- what every traced world of a run keeps
pub record Lawful (t : Traced) : Type 0 where
  pub framed : Framed t
  pub logged : Logged t
  pub calling : Calling t
  pub read : Read t

-- what is known of the input of a step of server i
abbrev pub IsKnown : Traced → ℕ → Cause → Type 0
IsKnown t i None = Unit {0}
IsKnown t i (Some (Called port call)) =
    IsCall call × IsWith t i port call
    × ((u : OpenUpdate) → In u (server t.world i).pend → u.port ≢ port)
    × ((r : OpenRead) → In r (server t.world i).asks → r.port ≢ port)
    × ((o k : ℕ) (x : CallId) → slice_get (issued_by t o) k ≡ Some x → x ≢ open_id t.world port)
    × ((k : ℕ) (r : AnsweredRead) → slice_get t.reads k ≡ Some r → r.id ≢ open_id t.world port)
IsKnown t i (Some (From j m)) = IsAddressed t j i m × Carries t j m.view m.body × Asks t j m.body
IsKnown t i (Some (Gone j)) = (has t.world.failed j ≡ true) × (j < count t)
