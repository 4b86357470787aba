-- Serves the code; no public contract needs it. Outputs whose messages were put, and whose replies are to be put.
use Rattle.std.specs.Prelude.{List, [], ◌∷◌}
use Rattle.node.specs.declared.messages.Body.TheVariants.{Ack}
use Rattle.node.specs.declared.messages.Output.{Output}
use Rattle.node.specs.declared.messages.Output.TheVariants.{To, Reply as Replied}
use Rattle.faces.specs.Histories.{History}
use Rattle.faces.specs.Outputs.{PutsOut}

-- what is left of an output once its message is taken out
abbrev pub spent : Output → Output
spent (To to peer) = To to (record { view = peer.view; body = Ack 0 })
spent (Replied port reply) = Replied port reply

-- the step of the history's last input put out each of the replies among these
abbrev pub ArePutOut : History → List Output → Type 0
ArePutOut c [] = Unit {0}
ArePutOut c (To to peer ∷ os) = ArePutOut c os
ArePutOut c (Replied port reply ∷ os) = PutsOut c (Replied port reply) × ArePutOut c os
