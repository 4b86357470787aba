-- A server's log: what it began with, and what it took. What is stored is the number of its inputs.
use Rattle.std.specs.Prelude.{ℕ, ◌≡◌, ◌==◌, true, List, [], ◌∷◌, ◌++◌, length, drop, MatchBool}
use Rattle.logbook.specs.Pages.{Cell, Step, View, Book, Named}
use Rattle.node.specs.Servers.{ServerState, opening}
use Rattle.node.specs.declared.messages.Input.{Input}
use Rattle.faces.specs.declared.logs.HistoryItem.{HistoryItem}
use Rattle.faces.specs.declared.logs.HistoryItem.TheVariants.{Began, Took}

-- the first item is what the server began with
abbrev pub IsBegun : List HistoryItem → Type 0
IsBegun [] = ⊥
IsBegun (Began node ∷ es) = Unit {0}
IsBegun (Took input ∷ es) = ⊥

-- what the server began with
abbrev pub start_of : List HistoryItem → ServerState
start_of [] = opening 0 1
start_of (Began node ∷ es) = node.server
start_of (Took input ∷ es) = opening 0 1

-- the inputs that it took, in order
abbrev pub inputs_of : List HistoryItem → List Input
inputs_of [] = []
inputs_of (Began node ∷ es) = inputs_of es
inputs_of (Took input ∷ es) = input ∷ inputs_of es

-- what stands after the first item is counted by the book's one word
pub record IsCounted (cells : List Cell) (log : List HistoryItem) : Type 0 where
  pub words : cells ≡ (length (drop 1 log), true) ∷ []
  pub begun : IsBegun log

-- a book's one word
abbrev pub head_of : Book → Named
head_of b = record { tracked = true; key = 0; book = b }

-- the item was added to all that had been seen, or the log was longer
abbrev pub Adds : Step HistoryItem → View HistoryItem ℕ → ℕ → View HistoryItem ℕ → Type 0
Adds s v found w = MatchBool (found == s.old) (w.0 ≡ v.0 ++ s.ask ∷ []) (Unit {0})
