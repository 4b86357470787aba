-- Each connection is at the home that its schedule names, at every moment.
use Rattle.std.proofs.Common.{◌≡◌, ℕ, List, Some, None, refl, inl, inr, sym, ap, ◌∙◌}
use Rattle.std.specs.Prelude.{slice_get}
use Rattle.node.specs.Actions.{act}
use Rattle.world.specs.Connections.{Connection, came, begun, asked, handed}
use Rattle.world.specs.Worlds.{server}
use Rattle.world.proofs.trace.Traces.{Traced, reconnected, outset}
use Rattle.world.proofs.trace.Layers.{Lawful}
use Rattle.world.proofs.trace.TraceLaws.{connection_before, same_calls}
use Rattle.world.proofs.trace.ChangeLaws.{connection_unchanged, connections_unlinked, connections_failing}
use Rattle.world.proofs.trace.Moves.{Move, Does, Comes, Starts, Works, Hands, Takes, Fails, moved}
use Rattle.world.proofs.trace.LaterMoves.{Kept, kept_came, kept_begun, kept_asked, kept_handed, kept_where_home_lives}
use Rattle.world.proofs.trace.Outsets.{fresh_at}
use Rattle.world.proofs.moments.Goings.{Laws, Goes, kept_on}

-- each connection is at its home
abbrev pub AtHomes : List ℕ → Traced → Type 0
AtHomes homes t =
    (c : ℕ) (k : Connection) → slice_get t.world.connections c ≡ Some k → slice_get homes c ≡ Some k.home

homes_changed : (homes : List ℕ) (t : Traced) (d : ℕ) (change : Connection → Connection)
    → ((k : Connection) → Kept k (change k))
    → AtHomes homes t
    → AtHomes homes (reconnected t d change)
homes_changed homes t d change kept h c k' here =
    let old = connection_unchanged t d change c k' here in
    let home : k'.home ≡ old.0.home = elim old.2 [
      | inl it ↦ ap (λ (k : Connection). k.home) it.1 ∙ (kept old.0).home
      | inr other ↦ ap (λ (k : Connection). k.home) other.1
    ] in
    h c old.0 old.1 ∙ ap Some (sym home)

homes_moved : (homes : List ℕ) (t : Traced) (m : Move) → AtHomes homes t → AtHomes homes (moved t m)
homes_moved homes t (Does i cause a) h c k' here =
    let old = connection_before t i a c k' here in
    let home : k'.home ≡ old.0.home =
    same_calls (λ (k : Connection). k.home) (λ k stage. refl) (act (server t.world i) a).outputs c old.0 k' old.2 in
    h c old.0 old.1 ∙ ap Some (sym home)
homes_moved homes t (Comes d bytes) h c k' here =
    homes_changed homes t d _ (kept_where_home_lives t.world (came bytes) (kept_came bytes)) h c k' here
homes_moved homes t (Starts d) h c k' here =
    homes_changed homes t d _ (kept_where_home_lives t.world (λ k. begun k.stage k) (λ k. kept_begun k.stage k)) h c k'
    here
homes_moved homes t (Works d) h c k' here = homes_changed homes t d asked kept_asked h c k' here
homes_moved homes t (Hands d) h c k' here =
    homes_changed homes t d _ (kept_where_home_lives t.world (λ k. handed k.stage k) (λ k. kept_handed k.stage k)) h c
    k' here
homes_moved homes t (Takes i j ms) h c k' here =
    h c k' (ap (λ ks. slice_get ks c) (sym (connections_unlinked t i j ms)) ∙ here)
homes_moved homes t (Fails i) h c k' here =
    h c k' (ap (λ ks. slice_get ks c) (sym (connections_failing t i)) ∙ here)

-- so it is at every later moment
pub homes_on : Laws → (homes : List ℕ) (t u : Traced) → Goes t u → Lawful t → AtHomes homes t → AtHomes homes u
homes_on laws homes t u goes l h =
    kept_on laws (λ before. AtHomes homes) (λ before v m g r lawful later after k. homes_moved homes v m k)
    None t u (goes None) l h

-- and at the first
pub homes_first : (n : ℕ) (homes : List ℕ) → AtHomes homes (outset n homes)
homes_first n homes c k here =
    let f = fresh_at homes c k here in
    f.1 ∙ ap Some (sym (ap (λ (x : Connection). x.home) f.2))
