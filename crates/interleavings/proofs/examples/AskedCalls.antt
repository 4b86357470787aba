-- Calls that clients can ask: the set and the get of worked runs.
use Rattle.std.proofs.Common.{refl, lit<, lit≤}
use Rattle.interleavings.specs.Asked.{IsAsked}
use Rattle.interleavings.specs.Moves.{read_of}
use Rattle.interleavings.specs.WorkedRuns.{key, set}

-- the set
pub set_asked : IsAsked set
set_asked = record { fits = lit≤ tt; suits = refl; target = refl; numbers = lit< tt }

-- the get
pub get_asked : IsAsked (read_of key)
get_asked = record { fits = tt; suits = refl; target = refl; numbers = tt }
