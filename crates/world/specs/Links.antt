-- Links: what stands on them, and what comes off them.
use Rattle.std.specs.Prelude.{ℕ, Bool, true, false, List, [], ◌∷◌, slice_index_or, slice_set}
use Rattle.std.specs.List.{AllByRecursion}
use Rattle.node.specs.declared.messages.Peer.{Peer}
use Rattle.node.specs.Lawful.{IsBody}

-- each of these messages may be given to a server
abbrev pub AreMessages : List Peer → Type 0
AreMessages ms = AllByRecursion (λ (m : Peer). IsBody m.body) ms

-- the messages from server i to server j
abbrev pub messages_between : List (List (List Peer)) → ℕ → ℕ → List Peer
messages_between links i j = slice_index_or (slice_index_or links i []) j []

-- the messages from server i to server j are these from now on
abbrev pub with_messages : List (List (List Peer)) → ℕ → ℕ → List Peer → List (List (List Peer))
with_messages links i j ms = slice_set links i (slice_set (slice_index_or links i []) j ms)

-- a list without elements
abbrev pub is_empty : {X : Type 0} → List X → Bool
is_empty [] = true
is_empty (x ∷ xs) = false
