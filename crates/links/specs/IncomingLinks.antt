-- The links by which other servers' messages come in. A link outlives the connections that carry it.
use Rattle.std.specs.Prelude.{ℕ, Bool, true, is_some, Option, Some, None, if◌then◌else◌}
use Rattle.node.specs.declared.messages.Input.TheVariants as inputs
use Rattle.node.specs.declared.messages.Peer.{Peer}
use Rattle.rail.specs.Inlets.{InletState, with_inbox_message}
use Rattle.rail.specs.declared.inbox_messages.InboxMessage.TheVariants.{Took}
use Rattle.link_streams.specs.Streams.{Receiving, handed_on, resumes, unheard_of}
use Rattle.links.specs.declared.incoming_links.IncomingLink.{IncomingLink}
use Rattle.links.specs.declared.incoming_links.WaitingLink.{WaitingLink}

-- the link of a server that hasn't greeted
abbrev pub ungreeted : InletState → WaitingLink
ungreeted inlet = record { inlet = inlet; received = None }

-- the same, if there is an inlet for it
abbrev pub first_of : Option InletState → Option WaitingLink
first_of None = None
first_of (Some inlet) = Some (ungreeted inlet)

-- a stream goes on with this start of its server: if nobody has greeted, or if this start has
abbrev pub goes_on : ℕ → Option Receiving → Bool
goes_on start None = true
goes_on start (Some received) = is_some (resumes received start)

-- the stream with which this start of its server goes on: from its first byte, or where it stood
abbrev pub stream_of : ℕ → Option Receiving → Receiving
stream_of start None = unheard_of start
stream_of start (Some received) = received

-- the link with which this start of its server goes on
abbrev pub resumed : ℕ → WaitingLink → IncomingLink
resumed start link = record { inlet = link.inlet; received = stream_of start link.received }

-- the link with which this start of its server goes on, if one waits and goes on with it
abbrev pub link_for : ℕ → Option WaitingLink → Option IncomingLink
link_for start None = None
link_for start (Some link) = if goes_on start link.received then Some (resumed start link) else None

-- a message of server i was brought by a link, and the bytes of its frame were counted
abbrev pub brought : ℕ → Peer → ℕ → IncomingLink → IncomingLink
brought i peer length link = record {
  inlet = with_inbox_message link.inlet (Took (inputs.From i peer));
  received = handed_on link.received length;
}

-- a link whose connection has ended
abbrev pub waiting_again : IncomingLink → WaitingLink
waiting_again link = record { inlet = link.inlet; received = Some link.received }
