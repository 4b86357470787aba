-- The rule of the board.
use Rattle.std.specs.Prelude.{◌≡◌, ℕ, true, false, List, [], ◌∷◌, ◌++◌, All}
use mathlib.Core.Option.{some}
use lib.ListN.{get_elem?}
use Rattle.faces.specs.declared.faces.Face.{Face}
use Rattle.faces.specs.declared.boards.BoardKnowledge.{BoardKnowledge}
use Rattle.faces.specs.Histories.{Instance, History, IsLater, nowhere, shown_after}
use Rattle.faces.specs.Shown.{Shown}

-- a place that knows nothing
abbrev pub newcomer : BoardKnowledge
newcomer = record { knows = false; instance = nowhere; histories = [] }

-- a place that knows whose face stands, and hasn't seen it
abbrev pub seated : Instance → BoardKnowledge
seated instance = record { knows = true; instance = instance; histories = [] }

-- it knows whose face stands
abbrev pub Knows : BoardKnowledge → Instance → Type 0
Knows v instance = (v.knows ≡ true) × (v.instance ≡ instance)

-- what stands is the server's face after the inputs that it says
abbrev pub IsShownBy : Shown → Type 0
IsShownBy x = x.face ≡ shown_after x.history

-- This history is one of the server that a place knows, if any, and begins with all that the place has seen.
pub record Fits (c : History) (v : BoardKnowledge) : Type 0 where
  pub server : v.knows ≡ true → v.instance ≡ c.instance
  pub seen : All (λ d. IsLater d c) v.histories

-- and what stands begins with all that any place has seen
abbrev pub Keeps : Face → List BoardKnowledge → Type 0
Keeps x views = IsShownBy x × ((seat : ℕ) (v : BoardKnowledge) → get_elem? views seat ≡ some v → Fits x.history v)

-- What a look tells of what stands, or a change of what stands from then on: that it is the server's face after the
-- inputs that it says; whose face it is, as before; and that these inputs are what the place has now seen, once more,
-- and begin with all that it had seen.
pub record Tells (v : BoardKnowledge) (x y : Face) (w : BoardKnowledge) : Type 0 where
  pub shown : IsShownBy y
  pub server : Knows w y.history.instance
  pub same : v.knows ≡ true → v.instance ≡ y.history.instance
  pub histories : w.histories ≡ v.histories ++ y.history ∷ []
  pub later : All (λ d. IsLater d y.history) v.histories
