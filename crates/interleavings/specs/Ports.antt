-- Ports are names: servers, inputs and outputs whose ports are given other names.
use Rattle.std.specs.Prelude.{ℕ, map}
use Rattle.node.specs.declared.messages.Input.{Input}
use Rattle.node.specs.declared.messages.Input.TheVariants.{Call as Called, From, Gone}
use Rattle.node.specs.declared.messages.Output.{Output}
use Rattle.node.specs.declared.messages.Output.TheVariants.{To, Reply as Replied}
use Rattle.node.specs.declared.servers.OpenRead.{OpenRead}
use Rattle.node.specs.declared.servers.OpenUpdate.{OpenUpdate}
use Rattle.node.specs.Servers.{ServerState, RuleResult}

-- an open update at the new port
abbrev pub with_port : (ℕ → ℕ) → OpenUpdate → OpenUpdate
with_port f u = record u { port = f u.port }

-- an open read
abbrev pub read_with_port : (ℕ → ℕ) → OpenRead → OpenRead
read_with_port f r = record r { port = f r.port }

-- an output
abbrev pub output_to : (ℕ → ℕ) → Output → Output
output_to f (To to m) = To to m
output_to f (Replied port reply) = Replied (f port) reply

-- an input
abbrev pub input_at : (ℕ → ℕ) → Input → Input
input_at f (Called port call) = Called (f port) call
input_at f (From i m) = From i m
input_at f (Gone j) = Gone j

-- a server whose open calls have the new ports
abbrev pub renamed : (ℕ → ℕ) → ServerState → ServerState
renamed f s = record s { pend = map (with_port f) s.pend; asks = map (read_with_port f) s.asks }

-- what a rule makes of it, likewise
abbrev pub renamed_result : (ℕ → ℕ) → RuleResult → RuleResult
renamed_result f a = record { state = renamed f a.state; outputs = map (output_to f) a.outputs }
