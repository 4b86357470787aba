-- What holds of a server at every moment, whatever inputs it was given (this project's rule).
use Rattle.std.specs.Prelude.{◌≡◌, ◌≢◌, ℕ, ◌≤◌, ◌<◌, true, false, List, [], ◌∷◌, length, Some}
use Rattle.table.specs.Operations.{Fits, Suits, is_update}
use Rattle.table.specs.Plain.{item_at}
use Rattle.table.specs.Items.{Item}
use Rattle.table.specs.declared.operations.Call.{Call}
use Rattle.versions.specs.Entries.{IsEntry}
use Rattle.versions.specs.Stores.{IsStore, last_number}
use Rattle.node.specs.declared.servers.OpenUpdate.{OpenUpdate}
use Rattle.node.specs.declared.servers.OpenRead.{OpenRead}
use Rattle.node.specs.declared.messages.Body.{Body}
use Rattle.node.specs.declared.messages.Body.TheVariants.{Op, Forward, Ack, Query, Answer}
use Rattle.node.specs.declared.messages.Input.{Input}
use Rattle.node.specs.declared.messages.Input.TheVariants.{Call as Called, From, Gone}
use Rattle.node.specs.declared.messages.Output.{Output}
use Rattle.node.specs.declared.messages.Output.TheVariants.{To, Reply as Replied}
use Rattle.node.specs.Views.{has, is_below}
use Rattle.node.specs.Servers.{ServerState, is_tail}
use Rattle.node.specs.Steps.{least_open}

-- a call that may be handed in: its operation fits, and suits its target
abbrev pub IsCall : Call → Type 0
IsCall call = Fits call.op × Suits call.target call.op

-- the same of what a message says: a query's ask is at least 1
abbrev pub IsBody : Body → Type 0
IsBody (Op id call) = IsCall call
IsBody (Forward e) = Unit {0}
IsBody (Ack n) = Unit {0}
IsBody (Query ask key) = 1 ≤ ask
IsBody (Answer ask n) = Unit {0}

-- an input that may be given
abbrev pub IsInput : Input → Type 0
IsInput (Called port call) = IsCall call
IsInput (From i peer) = IsBody peer.body
IsInput (Gone j) = Unit {0}

-- an entry that comes with a message is one, as its type keeps
abbrev pub HasEntry : Body → Type 0
HasEntry (Op id call) = Unit {0}
HasEntry (Forward e) = IsEntry e
HasEntry (Ack n) = Unit {0}
HasEntry (Query ask key) = Unit {0}
HasEntry (Answer ask n) = Unit {0}

-- the entry of an input's message, if it has one, is one
abbrev pub HoldsEntry : Input → Type 0
HoldsEntry (Called port call) = Unit {0}
HoldsEntry (From i peer) = HasEntry peer.body
HoldsEntry (Gone j) = Unit {0}

-- own calls that may wait: updates, in the order of their ids, which are above this number and below the next id
abbrev pub AreUpdates : ℕ → List OpenUpdate → ℕ → Type 0
AreUpdates above [] next_id = above < next_id
AreUpdates above (u ∷ us) next_id =
    (above < u.id) × IsCall u.call × (is_update u.call.op ≡ true) × AreUpdates u.id us next_id

-- reads that may wait: in the order of their asks, which are above this number and below the next ask,
-- with lower bounds that never fall, none below the floor or above the commit number
abbrev pub AreReads : ℕ → ℕ → List OpenRead → ℕ → ℕ → Type 0
AreReads above lower_bound [] next_ask acked = (above < next_ask) × (lower_bound ≤ acked)
AreReads above lower_bound (r ∷ rs) next_ask acked =
    (above < r.ask) × (lower_bound ≤ r.lower_bound) × AreReads r.ask r.lower_bound rs next_ask acked

-- What every server keeps, within a step too, for any inputs:
pub record IsSound (s : ServerState) : Type 0 where
  -- it is one of a chain of 1 to 16;
  pub placed : s.id < s.count
  pub counted : s.count ≤ 16
  -- its view names neither itself nor one that isn't of the chain;
  pub outside : has s.view s.id ≡ false
  pub within : is_below s.view s.count ≡ true
  -- its entries follow one another, the floor is at most the commit number, and that is at most the last;
  pub store : IsStore s.store
  -- an item of the base was put by an entry up to the floor;
  pub based : (key : List ℕ) (item : Item) → item_at s.store.base key ≡ Some item → item.unique ≤ s.store.floor
  -- each origin has a greatest id seen;
  pub seen : length s.seen ≡ 16
  -- own calls wait in the order of their ids, and own reads in that of their asks and of their lower bounds.
  pub updates : AreUpdates 0 s.pend s.next_id
  pub reads : AreReads 0 s.store.floor s.asks s.next_ask s.store.acked

-- who is the tail in its own view has acknowledged everything, and no read of it waits
abbrev pub IsSettled : ServerState → Type 0
IsSettled s = is_tail s ≡ true → (s.store.acked ≡ last_number s.store) × (s.asks ≡ [])

-- What every server keeps between steps, for any inputs:
pub record IsLawful (s : ServerState) : Type 0 where
  pub sound : IsSound s
  pub settled : IsSettled s
  -- the floor is the least of the commit number and all lower bounds.
  pub floored : s.store.floor ≡ least_open s.store.acked s.asks

-- a message goes to another server of the chain
abbrev pub IsToOther : ℕ → ℕ → Output → Type 0
IsToOther id count (To to peer) = (to < count) × (to ≢ id)
IsToOther id count (Replied port reply) = Unit {0}

-- each message goes to another server of the chain
abbrev pub AreToOthers : ℕ → ℕ → List Output → Type 0
AreToOthers id count [] = Unit {0}
AreToOthers id count (o ∷ os) = IsToOther id count o × AreToOthers id count os

-- a body that may be sent: each field that its type doesn't keep in the range of the wire format is in it
-- (docs/FORMATS.md, "Peer messages"). What an op asks is an update that fits and suits its target; a query's key is
-- kept by its type.
abbrev pub IsSendable : Body → Type 0
IsSendable (Op id call) = (1 ≤ id) × IsCall call × (is_update call.op ≡ true)
IsSendable (Forward e) = IsEntry e
IsSendable (Ack n) = Unit {0}
IsSendable (Query ask key) = 1 ≤ ask
IsSendable (Answer ask n) = 1 ≤ ask

-- a message may be sent, and handed in where it goes
abbrev pub IsFit : Output → Type 0
IsFit (To to peer) = IsSendable peer.body × IsBody peer.body
IsFit (Replied port reply) = Unit {0}

-- each message may be sent, and handed in where it goes
abbrev pub AreFit : List Output → Type 0
AreFit [] = Unit {0}
AreFit (o ∷ os) = IsFit o × AreFit os
