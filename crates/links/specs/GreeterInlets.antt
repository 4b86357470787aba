-- Which servers may greet a server.
use Rattle.std.specs.Prelude.{ℕ, length, Option, Some, None}
use Rattle.rail.specs.Inlets.{InletState}
use Rattle.links.specs.declared.greeter_inlets.GreeterInlets.{GreeterInlets}
use Rattle.links.specs.declared.incoming_links.WaitingLink.{WaitingLink}
use Rattle.links.specs.Waiting.{at_place}

-- servers of ids below this may greet, but the server itself
abbrev pub places : GreeterInlets → ℕ
places greeter_inlets = length greeter_inlets.servers.items

-- the link that waits for the server of this id
abbrev pub waiting_link : GreeterInlets → ℕ → Option WaitingLink
waiting_link greeter_inlets id = at_place greeter_inlets.servers.items id

-- a link's inlet
abbrev pub inlet_in : Option WaitingLink → Option InletState
inlet_in None = None
inlet_in (Some link) = Some link.inlet

-- the inlet that waits for the server of this id
abbrev pub waiting : GreeterInlets → ℕ → Option InletState
waiting greeter_inlets id = inlet_in (waiting_link greeter_inlets id)
