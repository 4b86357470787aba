-- What a reader has seen.
use Rattle.faces.specs.Histories.{History, IsLater}
use Rattle.io_threads.proofs.Later as later
use Rattle.seats.proofs.Seated as seated

-- a history begins with itself
pub later_same : (c : History) → IsLater c c
later_same c = later.later_same c

-- what is later than a later history is later
pub later_then : (first second third : History) → IsLater first second → IsLater second third → IsLater first third
later_then first second third p q = seated.later_then first second third p q
