-- Runs of one server: what it is after a list of inputs, and all that it put out.
use Rattle.std.specs.Prelude.{List, [], ◌∷◌, ◌++◌}
use Rattle.node.specs.declared.messages.Input.{Input}
use Rattle.node.specs.declared.messages.Output.{Output}
use Rattle.node.specs.Servers.{ServerState}
use Rattle.node.specs.Steps.{step}
use Rattle.node.specs.Lawful.{IsInput, HoldsEntry}

-- a server after these inputs, one after another
abbrev pub after : ServerState → List Input → ServerState
after s [] = s
after s (i ∷ is) = after (step s i).state is

-- what it put out for these inputs, in order
abbrev pub put_out : ServerState → List Input → List Output
put_out s [] = []
put_out s (i ∷ is) = (step s i).outputs ++ put_out (step s i).state is

-- each of these inputs may be given, and an entry that comes with it is one
abbrev pub AreInputs : List Input → Type 0
AreInputs [] = Unit {0}
AreInputs (i ∷ is) = IsInput i × HoldsEntry i × AreInputs is
