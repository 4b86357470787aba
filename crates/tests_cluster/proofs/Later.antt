-- What a reader has seen.
use Rattle.faces.specs.Histories.{History, IsLater}
use Rattle.io_threads.proofs.Later as later

-- a history begins with itself
pub later_same : (c : History) → IsLater c c
later_same c = later.later_same c
