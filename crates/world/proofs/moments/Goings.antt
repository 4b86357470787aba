-- From one traced world to a later one by moves: all laws are kept, and all that was known still is.
use Rattle.std.proofs.Common.{◌≡◌, ℕ, true, List, [], ◌∷◌, ◌++◌, Some, refl, sym, ap, ◌∙◌, subst}
use Rattle.node.specs.declared.messages.Input.{Input}
use Rattle.node.specs.Servers.{ServerState}
use Rattle.node.specs.Steps.{step}
use Rattle.node.specs.Lawful.{IsLawful, IsInput, HoldsEntry}
use Rattle.world.specs.Worlds.{server, lives}
use Rattle.node.proofs.Lists.{Begins}
use Rattle.node.specs.Actions.{Action, Cause, AreGuarded, IsDone, left}
use Rattle.world.proofs.trace.Traces.{Traced, done, all_done}
use Rattle.world.proofs.trace.Layers.{Later, Framed, Logged, Calling, Read, Lawful, IsKnown}
use Rattle.world.proofs.trace.IdLaws.{living_parts}
use Rattle.world.proofs.trace.LaterLaws.{later_same, later_on}
use Rattle.world.proofs.trace.LaterMoves.{later_moved}
use Rattle.world.proofs.layers.FrameMoves.{NextFits, framed_moved}
use Rattle.world.proofs.moments.KnownInputs.{known_on}
use Rattle.world.proofs.trace.TraceLaws.{server_done, lives_done}
use Rattle.world.proofs.trace.Moves.{Move, Does, moved, CanDo, IsMove, Memory, recalled, IsOf, of_left, Recalls}
use Rattle.world.proofs.trace.Moves.{all_moved, AreMoves, recalled_last, moved-append, are-append}

-- a step of a lawful server is a list of guarded actions
abbrev pub StepDone : Type 0
StepDone = (s : ServerState) (input : Input) → IsLawful s → IsInput input → HoldsEntry input
    → IsDone (Some input) s (step s input)

-- what each layer owes: every move keeps it
pub record Laws : Type 0 where
  pub fits : NextFits
  pub step : StepDone
  pub grows : (t : Traced) (m : Move) → IsMove t m → Lawful t → Begins t.committed (moved t m).committed
  pub logged : (t : Traced) (m : Move)
      → IsMove t m
      → Lawful t
      → Later t (moved t m)
      → Framed (moved t m)
      → Logged (moved t m)
  pub calling : (t : Traced) (m : Move)
      → IsMove t m
      → Lawful t
      → Later t (moved t m)
      → Framed (moved t m)
      → Logged (moved t m)
      → Calling (moved t m)
  pub read : (t : Traced) (m : Move)
      → IsMove t m
      → Lawful t
      → Later t (moved t m)
      → Framed (moved t m)
      → Logged (moved t m)
      → Calling (moved t m)
      → Read (moved t m)

-- u comes of t by moves, of which the first may be of a message that was taken off before
pub record GoesOn (before : Memory) (t u : Traced) : Type 0 where
  pub moves : List Move
  pub are : AreMoves before t moves
  pub is : u ≡ all_moved t moves
  pub later : Later t u
  pub lawful : Lawful u

-- whatever was taken off before
abbrev pub Goes : Traced → Traced → Type 0
Goes t u = (before : Memory) → GoesOn before t u

-- a lawful world comes of itself by no move
pub stays : (t : Traced) → Lawful t → Goes t t
unfolding all_moved
stays t l before = record { moves = []; are = tt; is = refl; later = later_same t; lawful = l }

-- by the laws of all layers what was known is known still after a move
pub later_by : Laws → (t : Traced) (m : Move) → IsMove t m → Lawful t → Later t (moved t m)
later_by laws t m g l = later_moved t m g l.framed (laws.grows t m g l)

-- by the laws of all layers a lawful world is lawful after a move
pub lawful_by : Laws → (t : Traced) (m : Move) → IsMove t m → Lawful t → Lawful (moved t m)
lawful_by laws t m g l =
    let later = later_by laws t m g l in
    let framed = framed_moved laws.fits t m g l.framed later in
    let logged = laws.logged t m g l later framed in
    let calling = laws.calling t m g l later framed logged in
    record { framed = framed; logged = logged; calling = calling; read = laws.read t m g l later framed logged calling }

-- a move, and what comes after it
pub goes_first : Laws
    → (before : Memory) (t : Traced) (m : Move) (g : IsMove t m)
    → Recalls before m
    → Lawful t
    → (v : Traced)
    → GoesOn (recalled t m g before) (moved t m) v
    → GoesOn before t v
unfolding all_moved
goes_first laws before t m g r l v b = record {
  moves = m ∷ b.moves;
  are = (g, r, b.are);
  is = b.is;
  later = later_on t (moved t m) v (later_by laws t m g l) b.later;
  lawful = b.lawful;
}

-- a world that comes by moves, and one that comes of it by more
pub goes_then : (before : Memory) (t u v : Traced) (a : GoesOn before t u)
    → GoesOn (recalled_last before t a.moves a.are) u v
    → GoesOn before t v
goes_then before t u v a b = record {
  moves = a.moves ++ b.moves;
  are = are-append before t a.moves b.moves a.are
      (subst (λ x. AreMoves (recalled_last before t a.moves a.are) x b.moves) a.is b.are);
  is = b.is ∙ ap (λ x. all_moved x b.moves) a.is ∙ sym (moved-append t a.moves b.moves);
  later = later_on t u v a.later b.later;
  lawful = b.lawful;
}

-- a world that comes by moves, and one that comes of it, whatever was taken off before
pub goes_both : (t u v : Traced) → Goes t u → Goes u v → Goes t v
goes_both t u v a b before = goes_then before t u v (a before) (b _)

-- the actions of a step
pub goes_all : Laws
    → (before : Memory) (t : Traced) (i : ℕ) (cause : Cause) (actions : List Action)
    → IsOf before i cause
    → Lawful t
    → lives t.world i ≡ true
    → IsKnown t i cause
    → AreGuarded cause (server t.world i) actions → GoesOn before t (all_done t i actions)
unfolding all_done
goes_all laws before t i cause [] of l living known g = stays t l before
goes_all laws before t i cause (a ∷ later) of l living known g =
    let u = done t i a in
    let can : CanDo t i cause a = record { lives = living; known = known; sound = g.0; guard = g.1 } in
    let guarded =
    subst (λ s. AreGuarded (left cause) s later) (sym (server_done t i a (living_parts t.world i living).0)) g.2 in
    goes_first laws before t (Does i cause a) can of l (all_done u i later)
    (goes_all laws before u i (left cause) later (of_left before i cause of) (lawful_by laws t (Does i cause a) can l)
    (lives_done t i a i ∙ living) (known_on t u i cause (later_by laws t (Does i cause a) can l) known) guarded)

-- ---- what else is kept

-- what each move keeps, as long as the message that was taken off last is recalled, holds after many
pub kept_through : Laws → (P : Memory → Traced → Type 0)
    → ((before : Memory) (t : Traced) (m : Move) (g : IsMove t m) → Recalls before m → Lawful t → Later t (moved t m)
    → Lawful (moved t m) → P before t → P (recalled t m g before) (moved t m))
    → (before : Memory) (t : Traced) (ms : List Move) (are : AreMoves before t ms)
    → Lawful t
    → P before t
    → P (recalled_last before t ms are) (all_moved t ms)
unfolding all_moved
kept_through laws P kept before t [] are l p = p
kept_through laws P kept before t (m ∷ ms) are l p =
    let lawful = lawful_by laws t m are.0 l in
    kept_through laws P kept (recalled t m are.0 before) (moved t m) ms are.2 lawful
    (kept before t m are.0 are.1 l (later_by laws t m are.0 l) lawful p)

-- what each move keeps holds of a world that comes by moves of one of which it holds
pub kept_on : Laws → (P : Memory → Traced → Type 0)
    → ((before : Memory) (t : Traced) (m : Move) (g : IsMove t m) → Recalls before m → Lawful t → Later t (moved t m)
    → Lawful (moved t m) → P before t → P (recalled t m g before) (moved t m))
    → (before : Memory) (t u : Traced) (a : GoesOn before t u)
    → Lawful t
    → P before t
    → P (recalled_last before t a.moves a.are) u
kept_on laws P kept before t u a l p =
    subst (P (recalled_last before t a.moves a.are)) (sym a.is) (kept_through laws P kept before t a.moves a.are l p)
