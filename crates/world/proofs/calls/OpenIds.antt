-- A connection's open call and its name.
use Rattle.std.proofs.Common.{◌≡◌, ℕ, length, Some, ap, sym, ◌∙◌}
use Rattle.std.specs.Prelude.{slice_get}
use Rattle.std.proofs.lemmas.Option.{same_Some}
use Rattle.table.specs.declared.operations.Call.{Call}
use Rattle.world.specs.Connections.{Connection, open_call}
use Rattle.world.specs.Worlds.{World}
use Rattle.world.specs.Calls.{begun_call}
use Rattle.world.proofs.trace.Traces.{Traced, open_id, open_ordinal}
use Rattle.world.proofs.trace.Layers.{IsWith}
use Rattle.world.proofs.trace.LaterMoves.{call_found}

-- the ordinal of the open call of a connection that stands there
pub ordinal_of : (w : World) (c : ℕ) (k : Connection)
    → slice_get w.connections c ≡ Some k
    → (open_id w c).ordinal ≡ length k.replies
ordinal_of w c k h = ap open_ordinal h

-- the open call of a connection is named by the ordinal after those of its replies
pub open_id_is : (w : World) (c : ℕ) (k : Connection)
    → slice_get w.connections c ≡ Some k
    → open_id w c ≡ record { connection = c; ordinal = length k.replies }
open_id_is w c k h = ap (λ n. record { connection = c; ordinal = n }) (ap open_ordinal h)

-- an open call is begun under the name of its connection's open call
pub open_begun : (w : World) (c : ℕ) (k : Connection) (call : Call)
    → slice_get w.connections c ≡ Some k
    → open_call k ≡ Some call
    → begun_call w (open_id w c) ≡ Some call
open_begun w c k call h g = call_found w (open_id w c) k call h (ap (λ n. slice_get k.calls n) (ordinal_of w c k h) ∙ g)

-- of one connection there is one open call
pub same_connection : (w : World) (c : ℕ) (k l : Connection)
    → slice_get w.connections c ≡ Some k
    → slice_get w.connections c ≡ Some l
    → k ≡ l
same_connection w c k l h g = same_Some k l (sym h ∙ g)

-- a call that is with its server is begun under the name of its connection's open call
pub with_begun : (t : Traced) (i c : ℕ) (call : Call)
    → IsWith t i c call
    → begun_call t.world (open_id t.world c) ≡ Some call
with_begun t i c call h = open_begun t.world c h.connection call h.here h.asked

-- of one connection there is one call with one server
pub with_same : (t : Traced) (i j c : ℕ) (call other : Call)
    → IsWith t i c call
    → IsWith t j c other
    → (i ≡ j) × (call ≡ other)
with_same t i j c call other h g =
    let e = same_connection t.world c h.connection g.connection h.here g.here in (
      sym h.home ∙ ap (λ (k : Connection). k.home) e ∙ g.home,
      same_Some call other (sym h.asked ∙ ap (λ (k : Connection). open_call k) e ∙ g.asked),
    )
