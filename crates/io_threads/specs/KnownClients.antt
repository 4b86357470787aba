-- The clients of one thread at one server.
use Rattle.std.specs.Prelude.{ℕ, Option, IfSome}
use Rattle.slab.specs.Slab.{Slab, get}
use Rattle.faces.specs.Histories.{History, IsLater}
use Rattle.io_threads.specs.Clients.{ClientState}

-- this history holds all that was told to this client, if there is one
abbrev pub IsKnownBy : History → Option ClientState → Type 0
IsKnownBy history client = IfSome client (λ client. IsLater client.client_connection.seen history)

-- this history holds all that was told to any of these clients
abbrev pub KnowsAll : History → Slab ClientState → Type 0
KnowsAll history clients = (key : ℕ) → IsKnownBy history (get clients key)
