-- What a store holds: its entries, and those above a number.
use Rattle.std.proofs.Common.{◌≡◌, ℕ, zero, suc, ◌+◌, ◌-◌, ◌<◌, ◌≤◌, true, not, List, [], ◌∷◌, take, drop, Some, refl}
use Rattle.std.proofs.Common.{ap, subst, arith}
use Rattle.std.specs.Prelude.{slice_get}
use Rattle.std.specs.List.{list_any}
use Rattle.std.proofs.lemmas.List.{drop_all}
use Rattle.std.proofs.lemmas.Option.{same_Some}
use Rattle.versions.specs.Entries.{LogEntry, IsEntry}
use Rattle.versions.specs.Stores.{StoreState, IsLog, IsStore, last_number, entries_after, is_clean, touches}
use Rattle.node.specs.Servers.{ServerState}
use Rattle.node.proofs.Lists.{In}

log_at : (floor k : ℕ) (es : List LogEntry) (e : LogEntry)
    → IsLog floor es
    → slice_get es k ≡ Some e
    → e.number ≡ floor + k + 1
log_at floor k [] e log h = absurd cc
log_at floor zero (f ∷ es) e log h =
    let same : f ≡ e = same_Some f e h in omega (arith, log.1, ap (λ (x : LogEntry). x.number) same)
log_at floor (suc k) (f ∷ es) e log h = omega (arith, log_at (floor + 1) k es e log.2 h)

-- what stands in a log is an entry
pub log_entry : (floor k : ℕ) (es : List LogEntry) (e : LogEntry) → IsLog floor es → slice_get es k ≡ Some e → IsEntry e
log_entry floor k [] e log h = absurd cc
log_entry floor zero (x ∷ es) e log h = subst (λ y. IsEntry y) (same_Some x e h) log.0
log_entry floor (suc k) (x ∷ es) e log h = log_entry (floor + 1) k es e log.2 h

-- what stands in a list after its first m stood m places later in the whole
pub get_dropped : {X : Type 0} (m : ℕ) (xs : List X) (k n : ℕ) (x : X)
    → n ≡ m + k
    → slice_get (drop m xs) k ≡ Some x
    → slice_get xs n ≡ Some x
get_dropped zero xs k n x at h = let same : n ≡ k = omega arith in rw same h
get_dropped (suc m) [] k n x at h = absurd cc
get_dropped (suc m) (y ∷ xs) k zero x at h = absurd (omega arith)
get_dropped (suc m) (y ∷ xs) k (suc n) x at h = get_dropped m xs k n x (omega arith) h

-- what stands among the first m stands at the same place in the whole
pub get_taken : {X : Type 0} (m : ℕ) (xs : List X) (k : ℕ) (x : X)
    → slice_get (take m xs) k ≡ Some x
    → (slice_get xs k ≡ Some x) × (k < m)
get_taken zero xs k x h = absurd cc
get_taken (suc m) [] k x h = absurd cc
get_taken (suc m) (y ∷ xs) zero x h = (h, omega arith)
get_taken (suc m) (y ∷ xs) (suc k) x h = let g = get_taken m xs k x h in (g.0, omega (arith, g.1))

-- an entry above a number is one that the store holds
pub held_after : (s : StoreState) (n : ℕ) (e : LogEntry) → In e (entries_after s n) → In e s.rest
held_after s n e i = (n - s.floor + i.0, get_dropped (n - s.floor) s.rest i.0 _ e refl i.1)

-- an entry between the commit number and n
pub held_between : (s : StoreState) (n : ℕ) (e : LogEntry)
    → IsStore s
    → s.acked < n
    → In e (take (n - s.acked) (entries_after s s.acked))
    → In e s.rest × (e.number ≤ n)
held_between s n e h low i =
    let g = get_taken (n - s.acked) (entries_after s s.acked) i.0 e i.1 in
    let at = get_dropped (s.acked - s.floor) s.rest i.0 (s.acked - s.floor + i.0) e refl g.0 in (
      (s.acked - s.floor + i.0, at),
      omega (arith, g.1, h.floor_acked, log_at s.floor (s.acked - s.floor + i.0) s.rest e h.log at),
    )

-- who has acknowledged everything has only clean keys
pub clean_at_last : (s : ServerState) (key : List ℕ) → s.store.acked ≡ last_number s.store → is_clean s.store key ≡ true
clean_at_last s key all =
    let none : entries_after s.store s.store.acked ≡ [] =
    drop_all (s.store.acked - s.store.floor) s.store.rest (omega (arith, all)) in
    ap (λ es. not (list_any (touches key) es)) none
