-- Which parts of a process belong to which server.
use Rattle.std.specs.Prelude.{◌≡◌, ◌≢◌, ℕ, zero, suc, ◌<◌, List, [], ◌∷◌, ◌++◌, Option, None, length, map}
use Rattle.std.specs.Prelude.{All}
use Rattle.node.specs.Servers.{ServerState, opening}
use Rattle.rail.specs.Inlets.{InletState}
use Rattle.seats.specs.SeatPools.{Pooling}
use Rattle.io_threads.specs.declared.front_ends.FrontEndServer.{FrontEndServer}
use Rattle.in_process_links.specs.declared.inbox_links.InboxLink.{InboxLink}
use Rattle.in_process_links.specs.declared.inbox_links.InProcessLinks.{InProcessLinks}
use Rattle.craq_process.specs.declared.opened_servers.Opened.{Opened}
use Rattle.craq_process.specs.Wiring.{Core, core_of, last_first, listed}
use Rattle.craq_cluster.specs.declared.controls.ServerControl.{ServerControl}
use Rattle.craq_cluster.specs.declared.server_parts.ServerParts.{ServerParts}

-- 0, 1 and so on: this many
abbrev pub numbers : ℕ → List ℕ
numbers zero = []
numbers (suc n) = numbers n ++ n ∷ []

-- what stands at a place, counted from 0
abbrev pub at_place : {A : Type 0} → List (Option A) → ℕ → Option A
at_place [] j = None
at_place (x ∷ xs) zero = x
at_place (x ∷ xs) (suc j) = at_place xs j

-- the list at a place
abbrev pub list_at : {A : Type 0} → List (List A) → ℕ → List A
list_at [] j = []
list_at (x ∷ xs) zero = x
list_at (x ∷ xs) (suc j) = list_at xs j

-- what stands at one place of each of these
abbrev pub column : {A : Type 0} → ℕ → List (List (Option A)) → List (Option A)
column j rows = map (λ row. at_place row j) rows

-- the inlets of each server that are left
abbrev pub inlets_of : {R : Type 0} → List (Opened R) → List (List InletState)
inlets_of servers = map (λ server. server.pooled.inlets.items) servers

-- the inlets of the links of one server, by the servers that they go to
abbrev pub inlets_in : List InboxLink → List (Option InletState)
inlets_in links = map (λ link. link.inlet) links

-- the inlets of the links of each server
abbrev pub all_inlets_in : {R : Type 0} → List (InProcessLinks R) → List (List (Option InletState))
all_inlets_in all = map (λ links. inlets_in links.links.items) all

-- the servers whose links these are
abbrev pub senders : {R : Type 0} → List (InProcessLinks R) → List ℕ
senders all = map (λ links. links.id) all

-- the same of each of these servers
abbrev pub cores_of : {R : Type 0} → List (Opened R) → List Core
cores_of servers = map (λ server. core_of server) servers

-- how the server of each worker began
abbrev pub starts_of : {R : Type 0} → List (Opened R) → List ServerState
starts_of servers = map (λ core. core.worker.published.instance.start) (cores_of servers)

-- servers 0, 1 and so on, this many, of a chain of `count`, before any input
abbrev pub openings : ℕ → ℕ → List ServerState
openings zero count = []
openings (suc n) count = openings n count ++ opening n count ∷ []

-- Server `id` took an inlet of each other server, the last one that was left, and none of its own. A server of which
-- none was taken has none left.
pub record IsDealt {A : Type 0} (id : ℕ) (before after : List (List A)) (taken : List (Option A)) : Type 0 where
  pub each : (j : ℕ) → list_at before j ≡ list_at after j ++ listed (at_place taken j)
  pub own : at_place taken id ≡ None
  pub whole : (j : ℕ) → j < length taken → j ≢ id → at_place taken j ≡ None → list_at after j ≡ []

-- The same of servers 0, 1 and so on: what was taken of each server's inlets are those of the links to it, one for each
-- other server.
pub record AreDealt {A : Type 0} (before after : List (List A)) (taken : List (List (Option A))) : Type 0 where
  pub each : (j : ℕ) → list_at before j ≡ list_at after j ++ last_first (column j taken)
  pub own : (i : ℕ) → at_place (column i taken) i ≡ None
  pub whole : (i j : ℕ) → i < length taken → j < length before → i ≢ j → at_place (column j taken) i ≡ None
      → list_at after j ≡ []

-- What a server has beside its worker is its own: its seats, its mark, and the last of its inlets.
pub record IsPartsOf {R : Type 0} (server : Opened R) (parts : ServerParts) : Type 0 where
  pub pools : parts.pools.items ≡ server.pooled.pools.items
  pub mark : parts.control.failed ≡ server.failed
  pub inlet : (rest : List InletState) × (server.pooled.inlets.items ≡ rest ++ parts.control.inlet ∷ [])

-- the same of each of these servers
abbrev pub ArePartsOf : {R : Type 0} → List (Opened R) → List ServerParts → Type 0
ArePartsOf [] all_server_parts = all_server_parts ≡ []
ArePartsOf (server ∷ servers) [] = ⊥
ArePartsOf (server ∷ servers) (parts ∷ all_server_parts) = IsPartsOf server parts × ArePartsOf servers all_server_parts

-- The seats of each of these are of the server of its place; the first one is server k.
abbrev pub AreSeatedFrom : ℕ → List ServerParts → Type 0
AreSeatedFrom k [] = Unit {0}
AreSeatedFrom k (parts ∷ all_server_parts) =
    All (λ pool. pool.seen.instance.start.id ≡ k) parts.pools.items × AreSeatedFrom (suc k) all_server_parts

-- what the program's own threads see of each server
abbrev pub controls_of : List ServerParts → List ServerControl
controls_of all_server_parts = map (λ parts. parts.control) all_server_parts

-- the seats of each server, by threads
abbrev pub pools_of : List ServerParts → List (List Pooling)
pools_of all_server_parts = map (λ parts. parts.pools.items) all_server_parts

-- the seats of each server that a front end serves, by threads
abbrev pub pools_in : List FrontEndServer → List (List Pooling)
pools_in served_servers = map (λ served_server. served_server.pools.items) served_servers
