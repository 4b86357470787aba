-- The laws of every move and of the outset, layer by layer; and so every schedule's moments.
use Rattle.std.proofs.Common.{ℕ, ◌≤◌, List}
use Rattle.world.specs.declared.events.Event.{Event}
use Rattle.world.proofs.trace.Traces.{outset}
use Rattle.world.proofs.moments.Goings.{Laws}
use Rattle.world.proofs.moments.Moments.{FirstLaws, Moments, moments_of}
use Rattle.node.proofs.DoneSteps.{step_done}
use Rattle.world.proofs.layers.FittingTurns.{next_fits}
use Rattle.world.proofs.layers.LoggedMoves.{grows_moved, logged_moved}
use Rattle.world.proofs.layers.LoggedEvents.{logged_outset}
use Rattle.world.proofs.calls.CallsMoved.{calling_moved, read_moved, calling_outset, read_outset}

-- each move keeps every layer
pub laws : Laws
laws = record {
  fits = next_fits;
  step = step_done;
  grows = grows_moved;
  logged = logged_moved;
  calling = calling_moved;
  read = read_moved;
}

-- each layer holds before any event
pub first_laws : FirstLaws
first_laws = record {
  logged = λ n homes few. logged_outset n homes;
  calling = λ n homes few. calling_outset n homes;
  read = λ n homes few. read_outset n homes;
}

-- the moments of a schedule
pub all_moments : (n : ℕ) (homes : List ℕ) (events : List Event) → n ≤ 16 → Moments (outset n homes) events
all_moments n homes events few = moments_of laws first_laws n homes events few
