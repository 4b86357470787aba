-- What one running server took, in order, and the server after it.
use Rattle.std.specs.Prelude.{◌≡◌, List, [], ◌∷◌, ◌++◌}
use mathlib.Core.List.{IsPrefix}
use Rattle.logbook.specs.Pages.{Book}
use Rattle.node.specs.declared.messages.Input.{Input}
use Rattle.node.specs.Servers.{ServerState, opening}
pub use Rattle.node.specs.Runs.{after}
use Rattle.node.specs.Faces.{FaceState, face_of}
use Rattle.faces.specs.declared.logs.HistoryItem.{HistoryItem}
use Rattle.faces.specs.Logs.{start_of, inputs_of}

-- Which running server it is, and what it began with.
pub record Instance : Type 0 where
  pub book : Book
  pub start : ServerState

-- A beginning of what a running server published: the inputs, in order, whose faces it showed.
pub record History : Type 0 where
  pub instance : Instance
  pub inputs : List Input

-- the server after a history
abbrev pub server_after : History → ServerState
server_after c = after c.instance.start c.inputs

-- the face of the server after a history
abbrev pub shown_after : History → FaceState
shown_after c = face_of (server_after c)

-- Both are histories of one server, and the second begins with the first.
pub record IsLater (earlier later : History) : Type 0 where
  pub instance : later.instance ≡ earlier.instance
  pub inputs : IsPrefix earlier.inputs later.inputs

-- a history with one input more
abbrev pub with_next : History → Input → History
with_next c input = record { instance = c.instance; inputs = c.inputs ++ input ∷ [] }

-- the history that a log tells
abbrev pub history_of : Book → List HistoryItem → History
history_of book log = record { instance = record { book = book; start = start_of log }; inputs = inputs_of log }

-- no server's instance
abbrev pub nowhere : Instance
nowhere = record { book = record { number = 0; log_name = 0; cells_name = 0 }; start = opening 0 1 }
