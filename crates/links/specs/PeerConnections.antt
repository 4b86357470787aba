-- What contracts see of one who speaks at a server's peer port.
use Rattle.std.specs.Prelude.{ℕ, List}
use Rattle.wire.specs.declared.frames.Frame.{Frame}
use Rattle.wire.specs.declared.frames.Frame.TheVariants.{Hello, Peer, Gone, Introduction, Accepted, Refused, Noted}
use Rattle.wire.specs.declared.frames.Frame.TheVariants.{Reign, Beat, Alive, Silent, Confirmed, Stalled}
use Rattle.links.specs.declared.speakers.Who.{Who}

-- Who speaks and what it has brought, where it is answered, whom its messages have called gone, the frames that were
-- taken, and how many weren't.
pub record PeerConnectionState (W : Type 0) : Type 0 where
  pub speaker : Who
  pub sink : W
  pub named : ℕ
  pub taken : List Frame
  pub failures : ℕ

-- whom the sender of a message calls gone
abbrev pub named_in : Frame → ℕ
named_in (Hello id) = 0
named_in (Peer peer) = peer.view
named_in (Gone j) = 0
named_in (Introduction opener) = 0
named_in (Accepted answer) = 0
named_in (Refused reason) = 0
named_in (Noted j) = 0
named_in (Reign epoch) = 0
named_in (Beat beat) = 0
named_in (Alive alive) = 0
named_in (Silent silent) = 0
named_in (Confirmed count) = 0
named_in (Stalled servers) = 0
