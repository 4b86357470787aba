-- Links: what was put on them, and what they carried.
use Rattle.std.specs.Prelude.{◌≡◌, ◌≤◌, ◌==◌, if◌then◌else◌, ℕ, List, [], ◌∷◌, ◌++◌}
use Rattle.node.specs.declared.messages.Peer.{Peer}

-- the messages that were put, in order, each with its receiver; how often the link to each server has failed; what each
-- link carried, in order; and what a link carries for a message
pub record LinksState (C : Type 0) : Type 0 where
  pub list : List (ℕ × Peer)
  pub failures : ℕ → ℕ
  pub carried : ℕ → List C
  pub spelled : Peer → List C

-- the messages to a server among these, in order
abbrev pub messages_to : ℕ → List (ℕ × Peer) → List Peer
messages_to j [] = []
messages_to j (m ∷ ms) = if m.0 == j then m.1 ∷ messages_to j ms else messages_to j ms

-- what a link carries for these messages, one after another
abbrev pub all_spelled : {C : Type 0} → (Peer → List C) → List Peer → List C
all_spelled spelled [] = []
all_spelled spelled (p ∷ ps) = spelled p ++ all_spelled spelled ps

module _ {C : Type 0} (l l' : LinksState C) where
  -- Meanwhile no link's failures fell, and the link to each server, if it hasn't failed, carried the messages that were
  -- put to it, in order, and nothing else.
  pub record HaveCarried : Type 0 where
    pub put : List (ℕ × Peer)
    pub list : l'.list ≡ l.list ++ put
    pub failures : (j : ℕ) → l.failures j ≤ l'.failures j
    pub carried : (j : ℕ) → l'.failures j ≡ 0 → l'.carried j ≡ l.carried j ++ all_spelled l.spelled (messages_to j put)
    pub spelled : l'.spelled ≡ l.spelled
