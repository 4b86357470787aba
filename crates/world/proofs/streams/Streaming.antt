-- What is on its way along the chain: the entries that a successor lacks, and the number that a predecessor lacks.
use Rattle.std.proofs.Common.{◌≡◌, ℕ, ◌+◌, ◌<◌, ◌≤◌, false, List, [], ◌∷◌, ◌++◌, length, Some, ◌⊎◌}
use Rattle.std.specs.Prelude.{if◌then◌else◌, ◌==◌}
use Rattle.versions.specs.Stores.{last_number}
use Rattle.node.specs.declared.messages.Body.{Body}
use Rattle.node.specs.declared.messages.Body.TheVariants.{Op, Forward, Ack, Query, Answer}
use Rattle.node.specs.declared.messages.Peer.{Peer}
use Rattle.node.specs.declared.messages.Output.{Output}
use Rattle.node.specs.declared.messages.Output.TheVariants.{To, Reply as Replied}
use Rattle.node.specs.Views.{has}
use Rattle.node.specs.Servers.{predecessor_of, successor_of}
use Rattle.world.specs.Worlds.{World, server, link}
use Rattle.node.proofs.Lists.{In}

-- the number of a forwarded entry
abbrev pub forwarded_number : Body → List ℕ
forwarded_number (Op id call) = []
forwarded_number (Forward e) = e.number ∷ []
forwarded_number (Ack n) = []
forwarded_number (Query ask key) = []
forwarded_number (Answer ask n) = []

-- what these messages bring, in order, by what a body brings
abbrev pub brought : (Body → List ℕ) → List Peer → List ℕ
brought picked [] = []
brought picked (m ∷ ms) = picked m.body ++ brought picked ms

-- the numbers of the entries that these messages forward
abbrev pub numbers : List Peer → List ℕ
numbers ms = brought forwarded_number ms

-- f + 1, f + 2 and so on, up to n
abbrev pub IsRun : ℕ → ℕ → List ℕ → Type 0
IsRun f n [] = f ≡ n
IsRun f n (x ∷ xs) = (x ≡ f + 1) × IsRun (f + 1) n xs

-- what of these outputs goes to server y, in order
abbrev pub sent_to : ℕ → List Output → List Peer
sent_to y [] = []
sent_to y (To j m ∷ os) = if j == y then m ∷ sent_to y os else sent_to y os
sent_to y (Replied c reply ∷ os) = sent_to y os

-- y comes next after x, lives, and doesn't know x to have failed
pub record Linked (w : World) (x y : ℕ) : Type 0 where
  pub here : x < length w.servers
  pub inside : y < length w.servers
  pub successor : successor_of (server w x) ≡ Some y
  pub unaware : has (server w y).view x ≡ false
  pub alive : has w.failed y ≡ false

-- x forwards to y all its entries after one that y has reached
pub record Stream (w : World) (x y : ℕ) : Type 0 where
  pub from : ℕ
  pub reached : from ≤ last_number (server w y).store
  pub run : IsRun from (last_number (server w x).store) (numbers (link w x y))

-- x comes next before y, lives, and doesn't know y to have failed
pub record LinkedBack (w : World) (x y : ℕ) : Type 0 where
  pub here : x < length w.servers
  pub inside : y < length w.servers
  pub predecessor : predecessor_of (server w y) ≡ Some x
  pub unaware : has (server w x).view y ≡ false
  pub alive : has w.failed x ≡ false

-- x has acknowledged what y has, or y tells it
abbrev pub IsTold : World → ℕ → ℕ → Type 0
IsTold w x y =
    ((server w y).store.acked ≤ (server w x).store.acked)
    ⊎ ((m : Peer) × (n : ℕ) × In m (link w y x) × (m.body ≡ Ack n) × ((server w y).store.acked ≤ n))

-- what holds between steps
pub record Streaming (w : World) : Type 0 where
  pub forwards : (x y : ℕ) → Linked w x y → Stream w x y
  pub acks : (x y : ℕ) → LinkedBack w x y → IsTold w x y
