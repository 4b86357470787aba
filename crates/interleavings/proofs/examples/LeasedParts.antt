-- Two leased runs, one after the other; and a look in one.
use Rattle.std.proofs.Common.{◌≡◌, List, [], ◌∷◌, ◌++◌, refl}
use Rattle.interleavings.specs.LeasedMoves.{LeasedChain, LeasedMove, leased_by, leased_from}

-- one part after the other
pub leased_from-append : (s : LeasedChain) (ms ns : List LeasedMove)
    → leased_from s (ms ++ ns) ≡ leased_from (leased_from s ms) ns
leased_from-append s [] ns = refl
leased_from-append s (m ∷ ms) ns = leased_from-append (leased_by s m) ms ns
