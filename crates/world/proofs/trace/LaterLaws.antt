-- What was known is known still after each move.
use Rattle.std.proofs.Common.{ℕ, ◌<◌, length, refl, arith, inl, inr, ◌∙◌}
use Rattle.std.proofs.lemmas.Bool.{cases_eq}
use Rattle.node.proofs.SoundActions.{Grown, grown_same, grown_act}
use Rattle.world.specs.Worlds.{server}
use Rattle.node.proofs.Lists.{Begins, get_front}
use Rattle.node.specs.Actions.{Action, Cause, Guard}
use Rattle.world.proofs.trace.Traces.{Traced, log, issued_by, count, done}
use Rattle.world.proofs.trace.Layers.{Later, Framed}
use Rattle.world.proofs.trace.TraceLaws.{new_entries, new_issued, new_reads, count_done, failed_done, server_done}
use Rattle.world.proofs.trace.TraceLaws.{server_other, log_other, log_done, issued_other, issued_done, reads_done}
use Rattle.world.proofs.trace.TraceLaws.{begun_done, replied_done}

-- at the same moment all that is known is known
pub later_same : (t : Traced) → Later t t
later_same t = record {
  count = refl;
  failed = λ k h. h;
  views = λ i k h. h;
  acks = λ i. omega arith;
  ids = λ i. omega arith;
  asks = λ i. omega arith;
  logs = λ i k x h. h;
  issued = λ i k x h. h;
  committed = λ k x h. h;
  reads = λ k x h. h;
  calls = λ x call h. h;
  replies = λ x reply h. h;
}

-- what is known from a moment to a second, and on to a third, is known to the third
pub later_on : (t u v : Traced) → Later t u → Later u v → Later t v
later_on t u v a b = record {
  count = b.count ∙ a.count;
  failed = λ k h. b.failed k (a.failed k h);
  views = λ i k h. b.views i k (a.views i k h);
  acks = λ i. omega (arith, a.acks i, b.acks i);
  ids = λ i. omega (arith, a.ids i, b.ids i);
  asks = λ i. omega (arith, a.asks i, b.asks i);
  logs = λ i k x h. b.logs i k x (a.logs i k x h);
  issued = λ i k x h. b.issued i k x (a.issued i k x h);
  committed = λ k x h. b.committed k x (a.committed k x h);
  reads = λ k x h. b.reads k x (a.reads k x h);
  calls = λ x call h. b.calls x call (a.calls x call h);
  replies = λ x reply h. b.replies x reply (a.replies x reply h);
}

-- ---- a server's action

-- what each server knows and has numbered only grows by an action of one of them
pub grown_done : (t : Traced) (i : ℕ) (cause : Cause) (a : Action)
    → i < count t
    → Guard cause (server t.world i) a
    → (k : ℕ)
    → Grown (server t.world k) (server (done t i a).world k)
grown_done t i cause a l g k =
    elim (cases_eq k i) [
      | inl same ↦ rw (same, server_done t i a l) (grown_act cause (server t.world i) a g)
      | inr other ↦ rw (server_other t i a k other) (grown_same (server t.world k))
    ]

-- each log only grows by an action
pub logs_done : (t : Traced) (i : ℕ) (a : Action) → i < length t.logs → (k : ℕ) → Begins (log t k) (log (done t i a) k)
logs_done t i a l k =
    elim (cases_eq k i) [
      | inl same ↦ rw (same, log_done t i a l) (λ n x h. get_front (log t i) (new_entries a) n x h)
      | inr other ↦ rw (log_other t i a k other) (λ n x h. h)
    ]

-- each server's issued updates only grow by an action
pub issued_grow : (t : Traced) (i : ℕ) (a : Action)
    → i < length t.issued
    → (k : ℕ)
    → Begins (issued_by t k) (issued_by (done t i a) k)
issued_grow t i a l k =
    elim (cases_eq k i) [
      | inl same ↦ rw (same, issued_done t i a l) (λ n x h. get_front (issued_by t i) (new_issued t a) n x h)
      | inr other ↦ rw (issued_other t i a k other) (λ n x h. h)
    ]

-- what was known is known still after an action, if the committed entries only grow by it
pub later_done : (t : Traced) (i : ℕ) (cause : Cause) (a : Action)
    → Framed t
    → i < count t
    → Guard cause (server t.world i) a
    → Begins t.committed (done t i a).committed
    → Later t (done t i a)
later_done t i cause a f l g c =
    let grown = grown_done t i cause a l g in
    record {
      count = count_done t i a;
      failed = λ k h. rw (failed_done t i a) h;
      views = λ k. (grown k).view;
      acks = λ k. (grown k).acked;
      ids = λ k. (grown k).next_id;
      asks = λ k. (grown k).next_ask;
      logs = logs_done t i a (rw f.logs l);
      issued = issued_grow t i a (rw f.issued l);
      committed = c;
      reads = rw (reads_done t i a) (λ n x h. get_front t.reads (new_reads t i a) n x h);
      calls = λ x call h. rw (begun_done t i a x) h;
      replies = λ x reply h. rw (replied_done t i a x) h;
    }
