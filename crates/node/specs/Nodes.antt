-- Nodes: a server, and whether it was stopped because it ran out of memory.
use Rattle.std.specs.Prelude.{ℕ, Bool, true, false, not, ◌&&◌, List, [], ◌∷◌}
use Rattle.node.specs.Servers.{ServerState, opening}

-- its server, and whether it was stopped
pub record NodeState : Type 0 where
  pub server : ServerState
  pub stopped : Bool

-- a node whose server goes on
abbrev pub running : ServerState → NodeState
running s = record { server = s; stopped = false }

-- a node of a chain before any input
abbrev pub fresh : ℕ → ℕ → NodeState
fresh id count = running (opening id count)

-- the list is empty
abbrev pub is_none_open : {X : Type 0} → List X → Bool
is_none_open [] = true
is_none_open (x ∷ xs) = false

-- it isn't stopped, and no call of its own is open
abbrev pub is_idle : NodeState → Bool
is_idle n = not n.stopped && is_none_open n.server.pend && is_none_open n.server.asks
