-- Which calls are open, and what is on its way to answer them: own updates by their ids, own reads by their asks.
use Rattle.std.proofs.Common.{◌≡◌, ◌≢◌, ℕ, ◌+◌, ◌<◌, ◌≤◌, true, false, List, [], ◌∷◌, ◌++◌, length, map, Some, ◌⊎◌}
use Rattle.std.specs.Prelude.{if◌then◌else◌, ◌==◌}
use Rattle.table.specs.declared.operations.Reply.{Reply}
use Rattle.versions.specs.Entries.{LogEntry}
use Rattle.versions.specs.Stores.{StoreState, entries_after}
use Rattle.node.specs.declared.servers.OpenUpdate.{OpenUpdate}
use Rattle.node.specs.declared.servers.OpenRead.{OpenRead}
use Rattle.node.specs.declared.messages.Body.{Body}
use Rattle.node.specs.declared.messages.Body.TheVariants.{Op, Forward, Ack, Query, Answer}
use Rattle.node.specs.declared.messages.Peer.{Peer}
use Rattle.node.specs.declared.messages.Output.{Output}
use Rattle.node.specs.declared.messages.Output.TheVariants.{Reply as Answered}
use Rattle.node.specs.Views.{has}
use Rattle.node.specs.Servers.{ServerState, seen_of, head_of, is_head}
use Rattle.world.specs.Worlds.{World, server, link}
use Rattle.node.proofs.Lists.{In}
use Rattle.world.proofs.streams.Streaming.{brought, IsRun}

-- ---- ids

-- the ids of own updates
abbrev pub ids : List OpenUpdate → List ℕ
ids us = map (λ (u : OpenUpdate). u.id) us

-- the ids of the entries of this origin
abbrev pub ids_of : ℕ → List LogEntry → List ℕ
ids_of o [] = []
ids_of o (e ∷ es) = if e.origin == o then e.id ∷ ids_of o es else ids_of o es

-- the id of an update that is sent to the head
abbrev pub op_id : Body → List ℕ
op_id (Op id call) = id ∷ []
op_id (Forward e) = []
op_id (Ack n) = []
op_id (Query ask key) = []
op_id (Answer ask n) = []

-- the ids of the updates that these messages bring
abbrev pub op_ids : List Peer → List ℕ
op_ids ms = brought op_id ms

-- ---- servers

-- the entries that aren't acknowledged
abbrev pub unacked : StoreState → List LogEntry
unacked s = entries_after s s.acked

-- ids up to some number are answered; those after it up to the last one that was issued wait; and the entries that
-- wait for their acknowledgement have ids after it too, up to the greatest seen
pub record AreOwn (next_id seen : ℕ) (waits takes : List ℕ) : Type 0 where
  pub answered : ℕ
  pub last : ℕ
  pub issued : next_id ≡ last + 1
  pub waiting : IsRun answered last waits
  pub taken : IsRun answered seen takes
  pub high : seen ≤ last

-- a server's own updates that wait, and own entries that aren't acknowledged, have the ids after the answered ones
abbrev pub Own : ServerState → Type 0
Own s = AreOwn s.next_id (seen_of s s.id) (ids s.pend) (ids_of s.id (unacked s.store))

-- who is the head in its own view has seen all its own ids
abbrev pub HasSeen : ServerState → Type 0
HasSeen s = is_head s ≡ true → s.next_id ≡ seen_of s s.id + 1

-- a call of this port is open
abbrev pub IsOpen : ServerState → ℕ → Type 0
IsOpen s p = ((u : OpenUpdate) × In u s.pend × (u.port ≡ p)) ⊎ ((r : OpenRead) × In r s.asks × (r.port ≡ p))

-- these outputs answer it
abbrev pub IsAnswered : List Output → ℕ → Type 0
IsAnswered os p = (reply : Reply) × In (Answered p reply) os

-- ---- links

-- h is the head in o's view, and doesn't know o to have failed
pub record Headed (w : World) (o h : ℕ) : Type 0 where
  pub here : o < length w.servers
  pub inside : h < length w.servers
  pub head : head_of (server w o) ≡ Some h
  pub other : h ≢ o
  pub unaware : has (server w h).view o ≡ false

-- o sends to h all its ids after one that h has seen
pub record Sends (w : World) (o h : ℕ) : Type 0 where
  pub from : ℕ
  pub last : ℕ
  pub issued : (server w o).next_id ≡ last + 1
  pub seen : from ≤ seen_of (server w h) o
  pub run : IsRun from last (op_ids (link w o h))

-- ---- what holds between steps

-- what holds of own updates, and of those on their way to heads, between steps
pub record Opening (w : World) : Type 0 where
  pub own : (o : ℕ) → o < length w.servers → Own (server w o)
  pub first : (o : ℕ) → o < length w.servers → HasSeen (server w o)
  pub ops : (o h : ℕ) → Headed w o h → Sends w o h
