-- A server that goes on.
use Rattle.std.specs.Prelude.{◌≡◌, Bool, Option, None, Some}
use Rattle.left_right.specs.declared.writer.Writer.{Writer}
use Rattle.left_right.specs.declared.Absorb.{Ghosts}
use Rattle.node.specs.Nodes.{NodeState, running}
use Rattle.faces.specs.declared.logs.Log.{Log}
use Rattle.faces.specs.declared.faces.Face.{Face}
use Rattle.faces.specs.declared.acts.Act.{Act}
use Rattle.faces.specs.declared.boards.BoardKnowledge.{BoardKnowledge}
use Rattle.faces.specs.Histories.{History, server_after}
use Rattle.faces.specs.Showing.{Shows}

-- What a publisher has published, and whether it goes on: the face of the server after that is shown.
pub record Publishing : Type 0 where
  pub published : History
  pub goes : Bool

-- the node is the server after what was published, and the log is this server's
abbrev pub IsCurrent : NodeState → Log → History → Type 0
IsCurrent node log published = (node ≡ running (server_after published)) × (published.instance.book ≡ log.head.book)

module _ {P A S : Type 0} {g : Ghosts Face Act S} where
  -- while there is a writer: the node is the server after what was published, and the writer shows the face of that
  -- server
  abbrev pub IsShowing : Option (Writer Face Act BoardKnowledge P A S g) → NodeState → Log → History → Type 0
  IsShowing None node log published = Unit {0}
  IsShowing (Some writer) node log published = IsCurrent node log published × Shows writer published
