-- The single moves of a traced world, what is known when one is made, and many of them one after another.
use Rattle.std.proofs.Common.{Option, None, ◌≡◌, ℕ, true, List, [], ◌∷◌, ◌++◌, Some, refl}
use Rattle.std.specs.Prelude.{slice_get}
use Rattle.table.specs.declared.operations.Call.{Call}
use Rattle.node.specs.declared.messages.Peer.{Peer}
use Rattle.node.specs.declared.messages.Input.TheVariants.{Call as Called, From, Gone}
use Rattle.node.specs.Lawful.{IsSound}
use Rattle.world.specs.declared.connections.Stage.TheVariants.{Begun}
use Rattle.world.specs.Connections.{Connection, came, begun, open_call, asked, handed}
use Rattle.world.specs.Worlds.{server, link, lives, where_home_lives}
use Rattle.node.specs.Actions.{Action, Cause, Guard, left}
use Rattle.world.proofs.trace.Traces.{Traced, done, reconnected, unlinked, failing}
use Rattle.world.proofs.trace.Layers.{IsKnown}

-- one change of a traced world
pub data Move : Type 0 where
  -- server i does an action of a step that takes this input
  Does : (i : ℕ) (cause : Cause) (a : Action) → Move
  -- bytes come to a connection
  Comes : (c : ℕ) (bytes : List ℕ) → Move
  -- its next call begins
  Starts : (c : ℕ) → Move
  -- its open call goes to its server
  Works : (c : ℕ) → Move
  -- its reply is handed over
  Hands : (c : ℕ) → Move
  -- the link from i to j loses its first message
  Takes : (i j : ℕ) (ms : List Peer) → Move
  -- a server fails
  Fails : (i : ℕ) → Move

-- the traced world after a move
abbrev pub moved : Traced → Move → Traced
moved t (Does i cause a) = done t i a
moved t (Comes c bytes) = reconnected t c (where_home_lives t.world (came bytes))
moved t (Starts c) = reconnected t c (where_home_lives t.world (λ k. begun k.stage k))
moved t (Works c) = reconnected t c asked
moved t (Hands c) = reconnected t c (where_home_lives t.world (λ k. handed k.stage k))
moved t (Takes i j ms) = unlinked t i j ms
moved t (Fails i) = failing t i

-- a living server does what its guard lets it do
pub record CanDo (t : Traced) (i : ℕ) (cause : Cause) (a : Action) : Type 0 where
  pub lives : lives t.world i ≡ true
  pub known : IsKnown t i cause
  pub sound : IsSound (server t.world i)
  pub guard : Guard cause (server t.world i) a

-- the c-th connection, at a living home, has begun a call that wasn't worked
pub record CanWork (t : Traced) (c : ℕ) : Type 0 where
  pub connection : Connection
  pub call : Call
  pub here : slice_get t.world.connections c ≡ Some connection
  pub lives : lives t.world connection.home ≡ true
  pub stage : connection.stage ≡ Begun
  pub called : open_call connection ≡ Some call

-- the link from i to a living j has these messages after its first one
pub record CanTake (t : Traced) (i j : ℕ) (ms : List Peer) : Type 0 where
  pub message : Peer
  pub here : link t.world i j ≡ message ∷ ms
  pub lives : lives t.world j ≡ true

-- what is known when a move is made
abbrev pub IsMove : Traced → Move → Type 0
IsMove t (Does i cause a) = CanDo t i cause a
IsMove t (Comes c bytes) = Unit {0}
IsMove t (Starts c) = Unit {0}
IsMove t (Works c) = CanWork t c
IsMove t (Hands c) = Unit {0}
IsMove t (Takes i j ms) = CanTake t i j ms
IsMove t (Fails i) = lives t.world i ≡ true

-- ---- many moves

-- a message that was taken off its link
pub record Taken : Type 0 where
  pub from : ℕ
  pub to : ℕ
  pub message : Peer

-- the one that was taken off last
abbrev pub Memory : Type 0
Memory = Option Taken

-- the message that was taken off last, after a move
abbrev pub recalled : (t : Traced) (m : Move) → IsMove t m → Memory → Memory
recalled t (Does i cause a) g before = before
recalled t (Comes c bytes) g before = before
recalled t (Starts c) g before = before
recalled t (Works c) g before = before
recalled t (Hands c) g before = before
recalled t (Takes i j ms) g before = Some (record { from = i; to = j; message = g.message })
recalled t (Fails i) g before = before

-- a message that server i works on is that one
abbrev pub IsOf : Memory → ℕ → Cause → Type 0
IsOf before i None = Unit {0}
IsOf before i (Some (Called port call)) = Unit {0}
IsOf before i (Some (From j m)) = before ≡ Some (record { from = j; to = i; message = m })
IsOf before i (Some (Gone j)) = Unit {0}

-- what is left of an input after an action comes of the same message
pub of_left : (before : Memory) (i : ℕ) (cause : Cause) → IsOf before i cause → IsOf before i (left cause)
of_left before i None h = tt
of_left before i (Some (Called port call)) h = tt
of_left before i (Some (From j m)) h = h
of_left before i (Some (Gone j)) h = tt

-- a message that a server works on in a move is the one that was taken off last
abbrev pub Recalls : Memory → Move → Type 0
Recalls before (Does i cause a) = IsOf before i cause
Recalls before (Comes c bytes) = Unit {0}
Recalls before (Starts c) = Unit {0}
Recalls before (Works c) = Unit {0}
Recalls before (Hands c) = Unit {0}
Recalls before (Takes i j ms) = Unit {0}
Recalls before (Fails i) = Unit {0}

-- one move after another
unfoldable pub all_moved : Traced → List Move → Traced
all_moved t [] = t
all_moved t (m ∷ ms) = all_moved (moved t m) ms

-- each of these moves may be made after those before it, with this memory before the first
abbrev pub AreMoves : Memory → Traced → List Move → Type 0
AreMoves before t [] = Unit {0}
AreMoves before t (m ∷ ms) = (g : IsMove t m) × Recalls before m × AreMoves (recalled t m g before) (moved t m) ms

-- what is recalled after them
abbrev pub recalled_last : (before : Memory) (t : Traced) (ms : List Move) → AreMoves before t ms → Memory
recalled_last before t [] are = before
recalled_last before t (m ∷ ms) are = recalled_last (recalled t m are.0 before) (moved t m) ms are.2

-- moves of two lists are made one list after the other
pub moved-append : (t : Traced) (ms ns : List Move) → all_moved t (ms ++ ns) ≡ all_moved (all_moved t ms) ns
unfolding all_moved
moved-append t [] ns = refl
moved-append t (m ∷ ms) ns = moved-append (moved t m) ms ns

-- moves that may be made after other ones may be made with them in front
pub are-append : (before : Memory) (t : Traced) (ms ns : List Move) (are : AreMoves before t ms)
    → AreMoves (recalled_last before t ms are) (all_moved t ms) ns
    → AreMoves before t (ms ++ ns)
unfolding all_moved
are-append before t [] ns are h = h
are-append before t (m ∷ ms) ns are h = (are.0, are.1, are-append (recalled t m are.0 before) (moved t m) ms ns are.2 h)
