-- What a face shows, and of which inputs.
use Rattle.std.specs.Prelude.{ℕ, List, [], ◌∷◌, ◌++◌, map}
use Rattle.node.specs.declared.faces.FaceStep.{FaceStep}
use Rattle.node.specs.declared.faces.FaceStep.TheVariants as steps
use Rattle.node.specs.Faces.{FaceState, face_after, face_at, face_changed, no_face}
use Rattle.faces.specs.declared.acts.Act.{Act}
use Rattle.faces.specs.declared.acts.Act.TheVariants.{Set, Clear, Reach}
use Rattle.faces.specs.Histories.{History}

-- a face, and the history that it is said to follow
pub record Shown : Type 0 where
  pub face : FaceState
  pub history : History

-- what a step of a change does
abbrev pub act_of : FaceStep → Act
act_of (steps.Set key version) = Set key version
act_of (steps.Clear number) = Clear number

-- what one act does
abbrev pub applied : Shown → Act → Shown
applied s (Set key version) = record s { face = face_after s.face (steps.Set key version) }
applied s (Clear number) = record s { face = face_after s.face (steps.Clear number) }
applied s (Reach n history) = record { face = face_at n s.face; history = history }

-- the acts of a change: its steps in order, and then the commit number
abbrev pub acts_of : List FaceStep → ℕ → History → List Act
acts_of changes acked history = map act_of changes ++ Reach acked history ∷ []

-- what a face shows that a change makes of one without versions
abbrev pub shown_first : List FaceStep → ℕ → History → Shown
shown_first changes acked history = record { face = face_changed no_face changes acked; history = history }
