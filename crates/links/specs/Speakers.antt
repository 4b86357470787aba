-- Who speaks at a server's peer port, and what the server hears of it.
use Rattle.std.specs.Prelude.{ℕ, List, [], ◌∷◌, ◌++◌, ◌≡◌, ◌≢◌, ◌⊎◌, ◌<◌, length, Option, Some, None}
use Rattle.ends.specs.Ends.{WritesBeginning}
use Rattle.peers.specs.declared.identities.Identity.{Identity}
use Rattle.wire.specs.declared.frames.Frame.{Frame}
use Rattle.wire.specs.declared.frames.Frame.TheVariants.{Hello, Peer, Gone, Introduction, Accepted, Refused, Noted}
use Rattle.wire.specs.declared.frames.Frame.TheVariants.{Reign, Beat, Alive, Silent, Confirmed, Stalled}
use Rattle.wire.specs.Spellings.{spelling}
use Rattle.links.specs.declared.greeter_inlets.GreeterInlets.{GreeterInlets}
use Rattle.links.specs.declared.orders.Response.{Response}
use Rattle.links.specs.declared.orders.Response.TheVariants as responses
use Rattle.links.specs.declared.speakers.Who.{Who}
use Rattle.links.specs.declared.speakers.Who.TheVariants.{Server, Master}
use Rattle.links.specs.GreeterInlets.{places, waiting_link}
use Rattle.links.specs.IncomingLinks.{brought, waiting_again}
use Rattle.links.specs.Orders.{Answers, bytes_of}

-- who greets with this id: a master by 16, else the server of that id
abbrev pub Greets : ℕ → Who → Type 0
Greets id (Server j link) = (j ≡ id) × (id ≢ 16)
Greets id (Master told) = id ≡ 16

-- how many bytes of a server's link were handed on: where its connection goes on
abbrev pub handed_of : Who → Option ℕ
handed_of (Server i link) = Some link.received.handed
handed_of (Master told) = None

-- a server speaks for itself, a master for none
abbrev pub SpeaksFor : Who → ℕ → Type 0
SpeaksFor (Server i link) j = j ≡ i
SpeaksFor (Master told) j = ⊥

-- the link of a server that was given back waits, if the server has a place there; of a master nothing changes
abbrev pub WaitsAgain : Who → GreeterInlets → GreeterInlets → Type 0
WaitsAgain (Server i link) before after = i < places before → waiting_link after i ≡ Some (waiting_again link)
WaitsAgain (Master told) before after = after ≡ before

-- what a frame makes of who speaks, if it is heard: a server sends messages, a master notices and orders, and what is
-- brought to the server are the messages and notices, in order. Of a message's link as many bytes more are handed on as
-- its frame has. A notice of silence is brought if it is of the epoch
-- that the server is in. Nobody greets twice, and who has opened the connection answers nothing
abbrev pub Hears : Who → Frame → Who → Type 0
Hears (Server i link) (Hello id) now = ⊥
Hears (Server i link) (Peer peer) now = now ≡ Server i (brought i peer (length (spelling (Peer peer))) link)
Hears (Server i link) (Gone j) now = ⊥
Hears (Server i link) (Introduction opener) now = ⊥
Hears (Server i link) (Accepted answer) now = ⊥
Hears (Server i link) (Refused reason) now = ⊥
Hears (Server i link) (Noted j) now = ⊥
Hears (Server i link) (Reign epoch) now = ⊥
Hears (Server i link) (Beat beat) now = ⊥
Hears (Server i link) (Alive alive) now = ⊥
Hears (Server i link) (Silent silent) now = ⊥
Hears (Server i link) (Confirmed count) now = ⊥
Hears (Server i link) (Stalled servers) now = ⊥
Hears (Master told) (Hello id) now = ⊥
Hears (Master told) (Peer peer) now = ⊥
Hears (Master told) (Gone j) now = now ≡ Master (told ++ j ∷ [])
Hears (Master told) (Introduction opener) now = ⊥
Hears (Master told) (Accepted answer) now = ⊥
Hears (Master told) (Refused reason) now = ⊥
Hears (Master told) (Noted j) now = ⊥
Hears (Master told) (Reign epoch) now = now ≡ Master told
Hears (Master told) (Beat beat) now = now ≡ Master told
Hears (Master told) (Alive alive) now = ⊥
Hears (Master told) (Silent silent) now = (now ≡ Master (told ++ silent.id ∷ [])) ⊎ (now ≡ Master told)
Hears (Master told) (Confirmed count) now = ⊥
Hears (Master told) (Stalled servers) now = ⊥

-- what a response says of who speaks: a notice is noted exactly if it was brought
abbrev pub Notes : Who → Response → Who → Type 0
Notes (Server i link) response now = response ≡ responses.Nothing
Notes (Master told) responses.Nothing now = ⊥
Notes (Master told) (responses.Noted j) now = now ≡ Master (told ++ j ∷ [])
Notes (Master told) (responses.Alive alive) now = now ≡ Master told

-- a notice of silence names a server of the host's chain
abbrev pub NamesOneOf : Identity → Frame → Type 0
NamesOneOf host (Hello id) = Unit {0}
NamesOneOf host (Peer peer) = Unit {0}
NamesOneOf host (Gone j) = Unit {0}
NamesOneOf host (Introduction opener) = Unit {0}
NamesOneOf host (Accepted answer) = Unit {0}
NamesOneOf host (Refused reason) = Unit {0}
NamesOneOf host (Noted j) = Unit {0}
NamesOneOf host (Reign epoch) = Unit {0}
NamesOneOf host (Beat beat) = Unit {0}
NamesOneOf host (Alive alive) = Unit {0}
NamesOneOf host (Silent silent) = silent.id < host.servers
NamesOneOf host (Confirmed count) = Unit {0}
NamesOneOf host (Stalled servers) = Unit {0}

-- What was written has grown by the answer to this frame, which tells what it made of who speaks, and by nothing else.
pub record IsAnswered (who : Who) (frame : Frame) (after : Who) (before now : List ℕ) : Type 0 where
  pub response : Response
  pub answer : Answers frame (bytes_of response)
  pub noted : Notes who response after
  pub written : now ≡ before ++ bytes_of response

-- The same of a beginning of that answer.
pub record IsAnswerBegun (who : Who) (frame : Frame) (after : Who) (before now : List ℕ) : Type 0 where
  pub response : Response
  pub answer : Answers frame (bytes_of response)
  pub noted : Notes who response after
  pub begun : WritesBeginning before now (bytes_of response)
