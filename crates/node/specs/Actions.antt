-- A server's step as a list of single guarded actions, as a TLA+ specification has them (docs/DESIGN.md has the rules
-- in words; CRAQ, "Chain Replication with Apportioned Queries" and "Failure Recovery in CRAQ"). `meaning` says of each
-- action what is known when it is done, and what it makes of the server. The law `steps_are_actions` says that each
-- step of a lawful server is such a list.
use Rattle.std.specs.Prelude.{◌≡◌, ◌≢◌, ℕ, ◌+◌, ◌<◌, ◌≤◌, nat_lt, Bool, true, false, not, List, [], ◌∷◌, ◌++◌}
use Rattle.std.specs.Prelude.{slice_get, Option, Some, None, ◌⊎◌, if◌then◌else◌}
use Rattle.table.specs.Operations.{is_update}
use Rattle.table.specs.declared.operations.Call.{Call}
use Rattle.table.specs.declared.operations.Reply.TheVariants.{Value}
use Rattle.table.specs.declared.operations.Target.TheVariants.{One}
use Rattle.versions.specs.Entries.{LogEntry, IsEntry}
use Rattle.versions.specs.Stores.{last_number, value_at, is_clean, acked_to}
use Rattle.node.specs.declared.servers.OpenUpdate.{OpenUpdate}
use Rattle.node.specs.declared.servers.OpenRead.{OpenRead}
use Rattle.node.specs.declared.messages.Body.{Body}
use Rattle.node.specs.declared.messages.Body.TheVariants.{Op, Forward, Ack, Query, Answer}
use Rattle.node.specs.declared.messages.Peer.{Peer}
use Rattle.node.specs.declared.messages.Input.{Input}
use Rattle.node.specs.declared.messages.Input.TheVariants.{Call as Called, From, Gone}
use Rattle.node.specs.declared.messages.Output.TheVariants.{To}
use Rattle.node.specs.Views.{View, has, single, is_below, is_same}
use Rattle.node.specs.Servers.{ServerState, RuleResult, most, head_of, tail_of, is_head, is_tail, predecessor_of, successor_of}
use Rattle.node.specs.Servers.{silent}
use Rattle.node.specs.Servers.{putting, and_then, message_to, reply_at}
use Rattle.node.specs.Numbering.{newly_acked, left_open_by, reply_to, appended, entry_of, is_taken, entered}
use Rattle.node.specs.Numbering.{is_room_for_update}
use Rattle.node.specs.Reading.{asked, open_read, without_read}
use Rattle.node.specs.Joining.{widened}
use Rattle.node.specs.Steps.{is_heard, trimmed}
use Rattle.node.specs.Lawful.{IsCall, IsSound}

-- ---- the input

-- the input whose step this is, until an own call was taken in
abbrev pub Cause : Type 0
Cause = Option Input

-- what is left of it after an action: a message or a notice stays
abbrev pub left : Cause → Cause
left None = None
left (Some (Called port call)) = None
left (Some (From i m)) = Some (From i m)
left (Some (Gone j)) = Some (Gone j)

-- the view that an input brings
abbrev pub IsBrought : Cause → View → Type 0
IsBrought input v = ((i : ℕ) × (m : Peer) × (input ≡ Some (From i m)) × (v ≡ m.view))
    ⊎ ((j : ℕ) × (input ≡ Some (Gone j)) × (v ≡ single j))

-- ---- what the guards speak of

-- x stands in the list
abbrev pub In : {X : Type 0} → X → List X → Type 0
In x xs = (k : ℕ) × (slice_get xs k ≡ Some x)

-- the update with this origin and id is one that may be taken: an own open call, or what an `Op` asks for
abbrev pub IsWanted : Cause → ServerState → ℕ → ℕ → Call → Type 0
IsWanted input s origin id call =
    ((origin ≡ s.id) × (port : ℕ) × In (record { id = id; port = port; call = call }) s.pend)
    ⊎ ((m : Peer) × (input ≡ Some (From origin m)) × (m.body ≡ Op id call) × (has s.view origin ≡ false)
    × (origin ≢ s.id))

-- an entry that the head makes
pub record IsMade (input : Cause) (s : ServerState) (e : LogEntry) : Type 0 where
  pub origin : ℕ
  pub id : ℕ
  pub call : Call
  pub wanted : IsWanted input s origin id call
  pub fits : IsCall call
  pub update : is_update call.op ≡ true
  pub head : is_head s ≡ true
  pub taken : is_taken s origin id ≡ true
  pub made : e ≡ entry_of s origin id call

-- an entry that the predecessor forwarded
pub record IsPassed (input : Cause) (s : ServerState) (e : LogEntry) : Type 0 where
  pub from : ℕ
  pub message : Peer
  pub came : input ≡ Some (From from message)
  pub body : message.body ≡ Forward e
  pub predecessor : predecessor_of s ≡ Some from
  pub next : e.number ≡ last_number s.store + 1
  -- the message's view was joined
  pub joined : (k : ℕ) → has message.view k ≡ true → has s.view k ≡ true

-- the tail rises to its last number, and another to the number that its successor acknowledged
abbrev pub IsReached : Cause → ServerState → ℕ → Type 0
IsReached input s n =
    ((is_tail s ≡ true) × (n ≡ last_number s.store))
    ⊎ ((i : ℕ) × (m : Peer) × (input ≡ Some (From i m)) × (m.body ≡ Ack n) × (successor_of s ≡ Some i)
    × ((k : ℕ) → has m.view k ≡ true → has s.view k ≡ true))

-- a message that may be put out to server j
abbrev pub MaySend : Cause → ServerState → ℕ → Body → Type 0
MaySend input s j (Op id call) =
    (head_of s ≡ Some j) × (j ≢ s.id) × (is_update call.op ≡ true) × IsCall call × (port : ℕ)
    × In (record { id = id; port = port; call = call }) s.pend
MaySend input s j (Forward e) = (successor_of s ≡ Some j) × In e s.store.rest
MaySend input s j (Ack n) = (predecessor_of s ≡ Some j) × (n ≡ s.store.acked)
MaySend input s j (Query ask key) =
    (tail_of s ≡ Some j) × (is_tail s ≡ false) × (1 ≤ ask) × (port : ℕ) × (lower_bound : ℕ)
    × In (record { ask = ask; port = port; key = key; lower_bound = lower_bound }) s.asks
MaySend input s j (Answer ask n) =
    (is_tail s ≡ true) × (n ≡ last_number s.store) × (has s.view j ≡ false) × (m : Peer) × (key : List ℕ)
    × (input ≡ Some (From j m)) × (m.body ≡ Query ask key)

-- the number that answers an open read: the tail's last number, its own or one that it sent
abbrev pub IsAnswered : Cause → ServerState → ℕ → ℕ → Type 0
IsAnswered input s ask n =
    ((is_tail s ≡ true) × (n ≡ last_number s.store))
    ⊎ ((t : ℕ) × (m : Peer) × (input ≡ Some (From t m)) × (m.body ≡ Answer ask n) × (tail_of s ≡ Some t))

-- ---- what is due

-- What a step has begun and has yet to do: history variables, as TLA+ calls them. Between steps nothing is due.
pub record Due : Type 0 where
  -- the server as the step began
  pub since : ServerState
  -- the successor was sent the entries up to this number
  pub forwarded : ℕ
  -- the predecessor has yet to be told the commit number
  pub untold : Bool
  -- acknowledged entries whose calls have yet to be closed
  pub unsettled : List LogEntry
  -- own updates that the head has yet to be sent, or to take
  pub unsent : List OpenUpdate
  -- own reads that the tail has yet to be asked for
  pub unasked : List OpenRead

-- nothing is due
abbrev pub nothing_due : ServerState → Due
nothing_due s =
    record { since = s; forwarded = last_number s.store; untold = false; unsettled = []; unsent = []; unasked = [] }

-- What a join makes due, from the server before it to the one whose view was widened: a new successor needs the entries
-- that aren't acknowledged, a new predecessor the commit number, a new head the own updates, and a new tail the
-- own reads.
abbrev pub due_to_new : ServerState → ServerState → Due
due_to_new s t =
    record {
      since = s;
      forwarded = if is_same (successor_of s) (successor_of t) then last_number s.store else s.store.acked;
      untold = not (is_same (predecessor_of s) (predecessor_of t));
      unsettled = [];
      unsent = if is_same (head_of s) (head_of t) then [] else s.pend;
      unasked = if is_same (tail_of s) (tail_of t) then [] else s.asks;
    }

-- a list without its first
abbrev pub but_first : {X : Type 0} → List X → List X
but_first [] = []
but_first (x ∷ xs) = xs

-- it is the turn of a message: the successor's next entry, the new commit number, the first own update or read
-- that is due
abbrev pub IsTurnOf : Body → Due → Type 0
IsTurnOf (Op id call) d =
    (port : ℕ) × (more : List OpenUpdate) × (d.unsent ≡ record { id = id; port = port; call = call } ∷ more)
IsTurnOf (Forward e) d = e.number ≡ d.forwarded + 1
IsTurnOf (Ack n) d = d.untold ≡ true
IsTurnOf (Query ask key) d =
    (port : ℕ) × (lower_bound : ℕ) × (more : List OpenRead)
    × (d.unasked ≡ record { ask = ask; port = port; key = key; lower_bound = lower_bound } ∷ more)
IsTurnOf (Answer ask n) d = Unit {0}

-- what is due after a message
abbrev pub due_after : Body → Due → Due
due_after (Op id call) d = record d { unsent = but_first d.unsent }
due_after (Forward e) d = record d { forwarded = e.number }
due_after (Ack n) d = record d { untold = false }
due_after (Query ask key) d = record d { unasked = but_first d.unasked }
due_after (Answer ask n) d = d

-- Nothing is left to do: what a step ends with.
pub record IsPaid (s : ServerState) (d : Due) : Type 0 where
  -- the successor was sent every entry, and the predecessor was told the commit number
  pub forwarded : (j : ℕ) → successor_of s ≡ Some j → d.forwarded ≡ last_number s.store
  pub told : (j : ℕ) → predecessor_of s ≡ Some j → d.untold ≡ false
  -- every acknowledged entry has closed its call
  pub settled : d.unsettled ≡ []
  -- the own updates that were due were sent to the head; who is the head has taken those that it could
  pub sent : is_head s ≡ false → d.unsent ≡ []
  pub taken : is_head s ≡ true → (u : OpenUpdate) → In u d.unsent → is_taken s s.id u.id ≡ false
  -- the tail was asked for the own reads that were due; who is the tail has acknowledged everything, and answered all
  -- its reads
  pub asked : is_tail s ≡ false → d.unasked ≡ []
  pub last : is_tail s ≡ true → (s.store.acked ≡ last_number s.store) × (s.asks ≡ [])

-- ---- the actions

-- what a server does at a time
pub data Action : Type 0 where
  -- the view grows
  Widen : (v : View) → Action
  -- an entry is appended
  Append : (e : LogEntry) → Action
  -- the commit number rises
  Reach : (n : ℕ) → Action
  -- an acknowledged entry closes its call, if that is an own one without a reply
  Settle : (e : LogEntry) → Action
  -- a message is put out
  Send : (j : ℕ) (body : Body) → Action
  -- an open read is answered with the number n
  Finish : (r : OpenRead) (n : ℕ) → Action
  -- the floor follows
  Trim : Action
  -- an own update call enters
  Enter : (port : ℕ) (call : Call) → Action
  -- an own read of a dirty key waits
  Ask : (port : ℕ) (key : List ℕ) → Action
  -- an own read of a clean key is answered
  Show : (port : ℕ) (key : List ℕ) → Action

-- What an action is, in a step that takes this input:
pub record Meaning : Type 1 where
  -- what is known when it is done
  pub guard : Type 0
  -- what it makes of the server, and puts out
  pub effect : RuleResult
  -- its turn has come, by what is due
  pub turn : Due → Type 0
  -- what is due after it
  pub due : Due → Due

abbrev pub meaning : Cause → ServerState → Action → Meaning
meaning input s (Widen v) =
    record {
      guard = IsBrought input v × (has v s.id ≡ false) × (is_below v s.count ≡ true);
      effect = silent (widened s v);
      turn = λ d. d ≡ nothing_due s;
      due = λ d. due_to_new s (widened s v);
    }
meaning input s (Append e) =
    record {
      guard = IsEntry e × (IsMade input s e ⊎ IsPassed input s e);
      effect = silent (appended s e);
      turn = λ d. e.origin ≢ s.id → (u : OpenUpdate) → In u d.unsent → is_taken s s.id u.id ≡ false;
      due = λ d. d;
    }
meaning input s (Reach n) =
    record {
      guard = (s.store.acked < n) × (n ≤ last_number s.store) × IsReached input s n;
      effect = silent (record s { store = acked_to s.store n });
      turn = λ d. d.unsettled ≡ [];
      due = λ d. record d { untold = true; unsettled = newly_acked s n };
    }
meaning input s (Settle e) =
    record {
      guard = In e s.store.rest × (e.number ≤ s.store.acked);
      effect = record { state = record s { pend = left_open_by s.id s.pend e }; outputs = reply_to s.id s.pend e };
      turn = λ d. (more : List LogEntry) × (d.unsettled ≡ e ∷ more);
      due = λ d. record d { unsettled = but_first d.unsettled };
    }
meaning input s (Send j body) =
    record {
      guard = MaySend input s j body × (j < s.count);
      effect = putting s (message_to s (Some j) body);
      turn = IsTurnOf body;
      due = due_after body;
    }
meaning input s (Finish r n) =
    record {
      guard = (open_read s.asks r.ask ≡ Some r) × In r s.asks × (r.lower_bound ≤ n) × (n ≤ last_number s.store)
          × IsAnswered input s r.ask n;
      effect = record {
        state = record s { asks = without_read s.asks r.ask };
        outputs = reply_at r.port (Value (value_at s.store r.key n));
      };
      turn = λ d. Unit {0};
      due = λ d. d;
    }
meaning input s Trim =
    record {
      guard = Unit {0};
      effect = silent (trimmed s);
      turn = λ d. Unit {0};
      due = λ d. d;
    }
meaning input s (Enter port call) =
    record {
      guard =
          (input ≡ Some (Called port call)) × IsCall call × (is_update call.op ≡ true) × (is_room_for_update s ≡ true);
      effect = silent (entered s port call);
      turn = λ d. Unit {0};
      due = λ d. record d { unsent = d.unsent ++ record { id = s.next_id; port = port; call = call } ∷ [] };
    }
meaning input s (Ask port key) =
    record {
      guard =
          (call : Call) × (input ≡ Some (Called port call)) × (is_update call.op ≡ false) × (call.target ≡ One key)
          × (is_clean s.store key ≡ false) × (nat_lt s.next_ask most ≡ true);
      effect = silent (asked s port key);
      turn = λ d. Unit {0};
      due = λ d. record d {
        unasked = d.unasked ++ record { ask = s.next_ask; port = port; key = key; lower_bound = s.store.acked } ∷ [];
      };
    }
meaning input s (Show port key) =
    record {
      guard = (call : Call) × (input ≡ Some (Called port call)) × (is_update call.op ≡ false) × (call.target ≡ One key)
          × (is_clean s.store key ≡ true);
      effect = putting s (reply_at port (Value (value_at s.store key (last_number s.store))));
      turn = λ d. Unit {0};
      due = λ d. d;
    }

-- what is known when an action is done
abbrev pub Guard : Cause → ServerState → Action → Type 0
Guard input s a = (meaning input s a).guard

-- what it makes of the server, whatever the input is
unfoldable pub act : ServerState → Action → RuleResult
act s a = (meaning None s a).effect

-- its turn has come
abbrev pub IsTurn : Due → ServerState → Action → Type 0
IsTurn d s a = (meaning None s a).turn d

-- what is due after it
abbrev pub due : Due → ServerState → Action → Due
due d s a = (meaning None s a).due d

-- ---- lists of actions

-- one action after another
unfoldable pub does : ServerState → List Action → RuleResult
does s [] = silent s
does s (a ∷ later) = and_then (act s a) (λ t. does t later)

-- each of these actions is done by a sound server, and knowing what it needs
abbrev pub AreGuarded : Cause → ServerState → List Action → Type 0
AreGuarded input s [] = IsSound s
AreGuarded input s (a ∷ later) = IsSound s × Guard input s a × AreGuarded (left input) (act s a).state later

-- what a rule makes of a server is made by such actions
pub record IsDone (input : Cause) (s : ServerState) (a : RuleResult) : Type 0 where
  pub actions : List Action
  pub guarded : AreGuarded input s actions
  pub same : a ≡ does s actions

-- each has its turn, by what is due
abbrev pub AreInTurn : Due → ServerState → List Action → Type 0
AreInTurn d s [] = Unit {0}
AreInTurn d s (a ∷ later) = IsTurn d s a × AreInTurn (due d s a) (act s a).state later

-- what is due after them
abbrev pub due_in_the_end : Due → ServerState → List Action → Due
due_in_the_end d s [] = d
due_in_the_end d s (a ∷ later) = due_in_the_end (due d s a) (act s a).state later

-- ---- steps

-- what a message from server i says is taken in, by a server that doesn't know i to have failed: a head has taken an
-- update if it could, an entry of the predecessor isn't the next one any more, a number of the successor is
-- acknowledged, a query is answered by the tail, and an answer of the tail that is in range leaves its read closed
abbrev pub IsTakenIn : ℕ → Body → RuleResult → Type 0
IsTakenIn i (Op id call) a = is_head a.state ≡ true → is_update call.op ≡ true → is_taken a.state i id ≡ false
IsTakenIn i (Forward e) a = predecessor_of a.state ≡ Some i → e.number ≢ last_number a.state.store + 1
IsTakenIn i (Ack n) a = successor_of a.state ≡ Some i → n ≤ last_number a.state.store → n ≤ a.state.store.acked
IsTakenIn i (Query ask key) a =
    is_tail a.state ≡ true → (m : Peer) × In (To i m) a.outputs × (m.body ≡ Answer ask (last_number a.state.store))
IsTakenIn i (Answer ask n) a =
    tail_of a.state ≡ Some i → (r : OpenRead) → In r a.state.asks → r.ask ≡ ask → r.lower_bound ≤ n
    → n ≤ last_number a.state.store → ⊥

-- what an input says is known after its step: a message's view and body, if it is heard, and a notice's server
abbrev pub IsHeeded : Input → ServerState → RuleResult → Type 0
IsHeeded (Called port call) s a = Unit {0}
IsHeeded (From i m) s a =
    is_heard s i m.view ≡ true
    → ((k : ℕ) → has m.view k ≡ true → has a.state.view k ≡ true)
    × (has a.state.view i ≡ false → IsTakenIn i m.body a)
IsHeeded (Gone j) s a = j < s.count → j ≢ s.id → has a.state.view j ≡ true

-- A whole step: a list of actions, each in its turn, after which nothing is left to do.
pub record IsWhole (input : Input) (s : ServerState) (a : RuleResult) : Type 0 where
  pub done : IsDone (Some input) s a
  pub turns : AreInTurn (nothing_due s) s done.actions
  pub paid : IsPaid a.state (due_in_the_end (nothing_due s) s done.actions)
  pub heeded : IsHeeded input s a
