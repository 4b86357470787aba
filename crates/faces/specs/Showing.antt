-- The writer of a server's face.
use Rattle.std.specs.Prelude.{◌≡◌, List, [], drop}
use Rattle.left_right.specs.declared.writer.Writer.{Writer}
use Rattle.left_right.specs.declared.Absorb.{Ghosts}
use Rattle.left_right.specs.Sides.{view}
use Rattle.faces.specs.declared.faces.Face.{Face}
use Rattle.faces.specs.declared.acts.Act.{Act}
use Rattle.faces.specs.declared.boards.BoardKnowledge.{BoardKnowledge}
use Rattle.faces.specs.Histories.{History, shown_after}
use Rattle.faces.specs.Boards.{Knows}

module _ {P A S : Type 0} {g : Ghosts Face Act S} where
  -- the acts that readers don't see yet
  abbrev pub pending : Writer Face Act BoardKnowledge P A S g → List Act
  pending w = drop w.behind w.log.items

  -- What stands is the server's face after this history, and nothing is pending.
  pub record Shows (w : Writer Face Act BoardKnowledge P A S g) (c : History) : Type 0 where
    pub history : w.desk.shown.value.history ≡ c
    pub face : w.desk.shown.value.face ≡ shown_after c
    pub nothing : pending w ≡ []
    pub knows : Knows (view w.desk.place) c.instance
