-- What contracts see of a peer port, and of the server whose it is.
use Rattle.std.specs.Prelude.{◌≡◌, ℕ, true}
use Rattle.node.specs.Views.{has, is_below}
use Rattle.peers.specs.declared.identities.Identity.{Identity}
use Rattle.links.specs.declared.peer_ports.PeerPort.{PeerPort}

-- what the server tells of itself
abbrev pub host_of : {C : Type 0} → PeerPort C → Identity
host_of shared_port = shared_port.host

-- what ends its connections
abbrev pub link_control_of : {C : Type 0} → PeerPort C → C
link_control_of shared_port = shared_port.link_control

-- A view calls a server gone: it names this server, and only servers of its chain.
pub record IsCalledGone (host : Identity) (view : ℕ) : Type 0 where
  pub chain : is_below view host.servers ≡ true
  pub named : has view host.id ≡ true
