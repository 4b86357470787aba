-- Links that heal: what connections may do to them.
use Rattle.std.specs.Prelude.{◌≡◌, ◌≤◌, ℕ, zero, suc, List, [], ◌∷◌, Option, Some, None}
use Rattle.link_streams.specs.Streams.{unwritten}
use Rattle.links.specs.declared.peer_links.PeerLink.{PeerLink}
use Rattle.links.specs.declared.peer_links.PeerLinks.{PeerLinks}
use Rattle.links.specs.PeerLinks.{failures_at, given_at}

-- Nothing was put on links meanwhile. None that has failed goes on, and each that hasn't carries what it carried.
pub record CarryOn {W : Type 0} (before after : PeerLinks W) : Type 0 where
  pub list : after.puts ≡ before.puts
  pub failures : (j : ℕ) → failures_at before.links.items j ≤ failures_at after.links.items j
  pub given : (j : ℕ) → failures_at after.links.items j ≡ 0
      → given_at after.links.items j ≡ given_at before.links.items j

-- what waits for a connection, if one stands: else it waits for that
abbrev pub waiting_for : {W : Type 0} → Option W → List ℕ → List ℕ
waiting_for None bytes = []
waiting_for (Some sink) bytes = bytes

-- what waits for the connection to each server
abbrev pub waiting_at : {W : Type 0} → List (PeerLink W) → ℕ → List ℕ
waiting_at [] j = []
waiting_at (x ∷ xs) zero = waiting_for x.sink (unwritten x.stream)
waiting_at (x ∷ xs) (suc j) = waiting_at xs j
