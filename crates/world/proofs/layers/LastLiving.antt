-- The committed entries are the greatest living server's log, each living log begins with them, and they only grow.
use Rattle.std.proofs.Common.{◌≡◌, ℕ, ◌<◌, true, false, length, Option, Some, None, refl, arith, inl, inr, ap}
use Rattle.std.proofs.lemmas.Bool.{cases_eq, both_ways, false_from_ne_true, or_parts}
use Rattle.node.specs.Views.{has}
use Rattle.world.specs.Worlds.{World, server, lives}
use Rattle.node.proofs.Lists.{Begins}
use Rattle.node.proofs.Beginnings.{begins_same, begins_as}
use Rattle.node.specs.Actions.{Action}
use Rattle.world.proofs.trace.Traces.{Traced, log, count, last_living, done, failing}
use Rattle.world.proofs.trace.TraceLaws.{committed_done}
use Rattle.world.proofs.trace.ChangeLaws.{count_failing, failed_failing, committed_failing, committed_left}
use Rattle.world.proofs.trace.IdLaws.{has-union, predecessor_from, living_parts, living_from, last_lives, before_last}
use Rattle.world.proofs.trace.IdLaws.{has_last}
use Rattle.world.proofs.trace.LaterLaws.{logs_done}
use Rattle.world.proofs.trace.Layers.{Framed, Logged}

-- a living server is one of the chain, and none that failed
pub record IsAlive (w : World) (i : ℕ) : Type 0 where
  pub within : i < length w.servers
  pub out : has w.failed i ≡ false

-- who passes the test of living is one of the chain, and hasn't failed
pub alive : (w : World) (i : ℕ) → lives w i ≡ true → IsAlive w i
alive w i h = let p = living_parts w i h in record { within = p.0; out = p.1 }

-- a living server above which all have failed is the greatest
pub last_found : (w : World) (i : ℕ)
    → IsAlive w i
    → ((x : ℕ) → i < x → x < length w.servers → has w.failed x ≡ true)
    → last_living w ≡ Some i
last_found w i a f = predecessor_from w.failed (length w.servers) i (record { below = a.within; out = a.out; between = f })

-- each living server's log has the committed entries
pub living_begins : (u : Traced) → Framed u
    → ((i j : ℕ) → i < j → j < count u → has (server u.world j).view i ≡ false → Begins (log u j) (log u i))
    → ((i : ℕ) → last_living u.world ≡ Some i → u.committed ≡ log u i)
    → (i : ℕ) → lives u.world i ≡ true → Begins u.committed (log u i)
living_begins u f begins last i h =
    let last_one = has_last u.world i h in
    let k = last_one.0 in
    let low = before_last u.world i k h last_one.1 in
    let lt = (alive u.world k (last_lives u.world k last_one.1)).within in
    begins_as u.committed (log u k) (log u i) (log u i) (last k last_one.1) (elim (cases_eq i k) [
      | inl same ↦ begins_as (log u k) (log u k) (log u k) (log u i) refl (begins_same (log u k))
          (ap (λ x. log u x) same)
      | inr other ↦ begins i k (omega arith) lt
          (false_from_ne_true _ (λ g. both_ways _ (alive u.world i h).out (f.known k i lt g)))
    ]) refl

-- the committed entries grow by an action of a living server
pub grows_done : (t : Traced) (i : ℕ) (a : Action)
    → Framed t
    → Logged t
    → lives t.world i ≡ true
    → Begins t.committed (done t i a).committed
grows_done t i a f l h =
    let last_one = has_last t.world i h in
    let k = last_one.0 in
    begins_as t.committed (log t k) (log (done t i a) k) (done t i a).committed (l.last k last_one.1)
    (logs_done t i a (rw f.logs (alive t.world i h).within) k) (committed_done t i a k last_one.1)

-- who lives when another has failed lived before
pub lived : (t : Traced) (i k : ℕ) → lives (failing t i).world k ≡ true → lives t.world k ≡ true
lived t i k h =
    let a = alive (failing t i).world k h in
    living_from t.world k (rw (← count_failing t i) a.within)
    (or_parts _ _ (rw (failed_failing t i, has-union) at a.out)).0

failing_by : (t : Traced) (i : ℕ) (o : Option ℕ)
    → last_living (failing t i).world ≡ o
    → Logged t
    → Begins t.committed (failing t i).committed
failing_by t i None e l = rw (committed_left t i e) (begins_same t.committed)
failing_by t i (Some k) e l =
    rw (committed_failing t i k e) (l.living k (lived t i k (last_lives (failing t i).world k e)))

-- and by a failure: the next living server's log has them
pub grows_failing : (t : Traced) (i : ℕ) → Logged t → Begins t.committed (failing t i).committed
grows_failing t i l = failing_by t i (last_living (failing t i).world) refl l
