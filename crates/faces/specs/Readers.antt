-- Readers.
use Rattle.std.specs.Prelude.{◌≡◌, ◌⊎◌, ℕ, List, [], ◌∷◌, ◌++◌, Option, None, Some}
use Rattle.left_right.specs.declared.reader.Reader.{Reader as Place}
use Rattle.left_right.specs.Sides.{view}
use Rattle.table.specs.Items.{Item}
use Rattle.node.specs.Faces.{FaceState, look_at}
use Rattle.node.specs.declared.looks.Look.TheVariants.{Clean}
use Rattle.faces.specs.declared.faces.Face.{Face}
use Rattle.faces.specs.declared.boards.BoardKnowledge.{BoardKnowledge}
use Rattle.faces.specs.Histories.{History, Instance}
use Rattle.faces.specs.Boards.{Knows}

-- What a reader has seen or was told of; and each history whose face stood when it looked, in order. Only a look at
-- what stands lengthens these.
pub record Looking : Type 0 where
  pub seen : History
  pub looks : List History

-- a reader that has seen or was told of this, and hasn't looked yet
abbrev pub yet_to_look : History → Looking
yet_to_look seen = record { seen = seen; looks = [] }

-- No look is forgotten, and there is one more at most: at the face that stood then, after this history.
abbrev pub HasLookedAtMostOnce : List History → List History → Type 0
HasLookedAtMostOnce before after = (after ≡ before) ⊎ ((stood : History) × (after ≡ before ++ stood ∷ []))

-- a look at this key of a face finds an item
abbrev pub ShowsItem : FaceState → List ℕ → Type 0
ShowsItem face key = (item : Item) × (look_at face key ≡ Clean (Some item))

module _ {P A : Type 0} where
  -- there is a place, at this server's board
  abbrev pub IsPlaceOf : Option (Place Face BoardKnowledge P A) → Instance → Type 0
  IsPlaceOf None instance = ⊥
  IsPlaceOf (Some place) instance = Knows (view place.place) instance

  -- the histories whose faces stood when it looked
  abbrev pub looks_of : Option (Place Face BoardKnowledge P A) → List History
  looks_of None = []
  looks_of (Some place) = (view place.place).histories
