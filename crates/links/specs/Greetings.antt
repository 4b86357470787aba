-- Who is accepted at a server's peer port, and why others aren't (this project's rule).
use Rattle.std.specs.Prelude.{ℕ, Bool, not, ◌&&◌, ◌||◌, if◌then◌else◌, nat_eq, nat_lt, is_some, Option, Some, None}
use Rattle.std.specs.Prelude.{◌≡◌, []}
use Rattle.std.specs.Cmp.Lexicographic.{pointwise}
use Rattle.node.specs.Views.{has}
use Rattle.wire.specs.declared.greetings.Acceptance.{Acceptance}
use Rattle.wire.specs.declared.greetings.Introduction.{Introduction}
use Rattle.wire.specs.declared.greetings.Reason.{Reason}
use Rattle.wire.specs.declared.greetings.Reason.TheVariants.{Servers, Chain, Taken, Gone}
use Rattle.peers.specs.declared.identities.Identity.{Identity}
use Rattle.links.specs.declared.speakers.Who.{Who}
use Rattle.links.specs.declared.speakers.Who.TheVariants.{Server, Master}
use Rattle.links.specs.Admissions.{PeerAdmissionState}
use Rattle.links.specs.GreeterInlets.{waiting_link}
use Rattle.links.specs.IncomingLinks.{link_for}

-- the opener's chain has the host's name
abbrev pub is_same_chain : Identity → Introduction → Bool
is_same_chain host opener = pointwise nat_eq host.chain opener.chain

-- the opener's chain has n servers, and this is the id of one of them or the master's, which is 16
abbrev pub is_same_size : ℕ → ℕ → ℕ → Bool
is_same_size servers id others = nat_eq others servers && (nat_eq id 16 || (nat_lt id servers && nat_lt id 16))

-- why who greets with this id isn't accepted, if it isn't: the first of these that holds. A master always is
abbrev pub refusal : Identity → PeerAdmissionState → ℕ → Introduction → Option Reason
refusal host admission id opener =
    if not (is_same_chain host opener) then Some Chain
    else if not (is_same_size host.servers id opener.servers) then Some Servers
    else if nat_eq id 16 then None
    else if nat_eq id host.id then Some Taken
    else if has admission.gone id then Some Gone
    else if is_some (link_for opener.start (waiting_link admission.greeter_inlets id)) then None
    else Some Taken

-- who is accepted has the link that waited for it, as it goes on with this start; a master has brought nothing
abbrev pub HasLink : PeerAdmissionState → ℕ → ℕ → Who → Type 0
HasLink admission id start (Server j link) =
    link_for start (waiting_link admission.greeter_inlets id) ≡ Some link
HasLink admission id start (Master told) = told ≡ []

-- the link of a server is that of this start of it
abbrev pub IsOfStart : ℕ → Who → Type 0
IsOfStart start (Server j link) = link.received.start ≡ start
IsOfStart start (Master told) = Unit {0}

-- At some admission who greets so is accepted, has the link that waited there, and is told who has failed as far as it
-- is known there.
pub record IsAdmitted (host : Identity) (id : ℕ) (opener : Introduction) (who : Who) (answer : Acceptance)
    : Type 0 where
  pub admission : PeerAdmissionState
  pub accepted : refusal host admission id opener ≡ None
  pub link : HasLink admission id opener.start who
  pub told : answer.gone ≡ admission.gone

-- At some admission who greets so is refused for this reason.
pub record IsRefused (host : Identity) (id : ℕ) (opener : Introduction) (reason : Reason) : Type 0 where
  pub admission : PeerAdmissionState
  pub refused : refusal host admission id opener ≡ Some reason
