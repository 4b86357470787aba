-- What is known if a server does one action.
use Rattle.std.proofs.Common.{◌≡◌, ℕ, ◌-◌, ◌<◌, ◌≤◌, true, Some, arith, subst}
use Rattle.std.specs.Prelude.{slice_get}
use Rattle.versions.specs.Entries.{LogEntry, IsEntry}
use Rattle.node.specs.Lawful.{IsSound}
use Rattle.world.specs.Worlds.{server, lives}
use Rattle.node.proofs.Lists.{In}
use Rattle.node.proofs.BegunLists.{begins_back}
use Rattle.world.proofs.layers.HeldLogs.{held_entry}
use Rattle.node.specs.Actions.{Action, Cause, Guard}
use Rattle.world.proofs.trace.Traces.{Traced, log, count, done}
use Rattle.world.proofs.trace.Layers.{Later, Lawful, IsKnown}
use Rattle.world.proofs.layers.LastLiving.{alive}

-- a living server does this, as the laws allow
pub record IsStep (t : Traced) (i : ℕ) (cause : Cause) (a : Action) : Type 0 where
  pub lives : lives t.world i ≡ true
  pub lawful : Lawful t
  pub known : IsKnown t i cause
  pub sound : IsSound (server t.world i)
  pub guard : Guard cause (server t.world i) a
  pub later : Later t (done t i a)

-- who does a step is one of the chain
pub within : (t : Traced) (i : ℕ) (cause : Cause) (a : Action) → IsStep t i cause a → i < count t
within t i cause a g = (alive t.world i g.lives).within

-- what is known of the input that a step is of
pub known_of : (t : Traced) (i : ℕ) (cause input : Cause) → cause ≡ input → IsKnown t i cause → IsKnown t i input
known_of t i cause input e h = subst (λ c. IsKnown t i c) e h

-- an acknowledged entry of a living server is a committed one
pub acked_committed : (t : Traced) (i : ℕ) (e : LogEntry)
    → Lawful t
    → lives t.world i ≡ true
    → In e (server t.world i).store.rest
    → e.number ≤ (server t.world i).store.acked
    → (slice_get t.committed (e.number - 1) ≡ Some e) × IsEntry e
acked_committed t i e l lives h acked =
    let lt = (alive t.world i lives).within in
    let r = held_entry (log t i) (server t.world i).store e (l.logged.holds i lt) h in (
      begins_back t.committed (log t i) (e.number - 1) e (l.logged.living i lives) r.ordinal
          (omega (arith, r.low, acked, l.logged.within i lt)),
      r.valid,
    )
