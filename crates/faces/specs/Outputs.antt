-- What a server put out for the last input of a history.
use Rattle.std.specs.Prelude.{◌≡◌, ◌⊎◌, List, [], ◌∷◌}
use Rattle.node.specs.declared.messages.Input.{Input}
use Rattle.node.specs.declared.messages.Output.{Output}
use Rattle.node.specs.Servers.{ServerState}
use Rattle.node.specs.Steps.{step}
use Rattle.faces.specs.Histories.{History}

-- what the step of the last of these inputs put out
abbrev pub last_outputs : ServerState → List Input → List Output
last_outputs s [] = []
last_outputs s (i ∷ []) = (step s i).outputs
last_outputs s (i ∷ (j ∷ js)) = last_outputs (step s i).state (j ∷ js)

-- it stands among them
abbrev pub IsAmong : Output → List Output → Type 0
IsAmong o [] = ⊥
IsAmong o (x ∷ xs) = (x ≡ o) ⊎ IsAmong o xs

-- the step of the history's last input put this out
abbrev pub PutsOut : History → Output → Type 0
PutsOut c o = IsAmong o (last_outputs c.instance.start c.inputs)
