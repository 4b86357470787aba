-- The ids of an origin are 1, 2, 3 and so on: so an entry stands after those with its origin's smaller ids.
use Rattle.std.proofs.Common.{◌≡◌, ℕ, zero, suc, ◌+◌, ◌<◌, ◌≤◌, List, [], ◌∷◌, ◌++◌, length, take, Some, sym, ap, ◌∙◌}
use Rattle.std.proofs.Common.{arith, inl, inr}
use Rattle.std.specs.Prelude.{slice_get}
use Rattle.std.proofs.lemmas.Bool.{cases_eq, cases_lt}
use Rattle.versions.specs.Entries.{LogEntry}
use Rattle.node.proofs.BegunLists.{found_below}
use Rattle.world.proofs.trace.Layers.{entries_of}
use Rattle.world.proofs.calls.EntryCounts.{entries-own, entries-other, entries-none}
use Rattle.world.proofs.waiting.Rooms.{taken_more}

-- an entry with this origin and id stands below k
abbrev pub HasBelow : List LogEntry → ℕ → ℕ → ℕ → Type 0
HasBelow es o id k =
    (j : ℕ) × (e : LogEntry) × (j < k) × (slice_get es j ≡ Some e) × (e.origin ≡ o) × (e.id ≡ id)

one_more : (es : List LogEntry) (o id k : ℕ) → HasBelow es o id k → HasBelow es o id (suc k)
one_more es o id k h = (h.0, h.1, omega (arith, h.2), h.3, h.4, h.5)

-- if there are more than m entries of an origin below k, one of them has the id m + 1
pub entry_below : (o m : ℕ) (es : List LogEntry) (k : ℕ)
    → ((j : ℕ) (e : LogEntry) → slice_get es j ≡ Some e → e.id ≡ entries_of e.origin (take j es) + 1)
    → k ≤ length es
    → m < entries_of o (take k es)
    → HasBelow es o (m + 1) k
entry_below o m es zero ids le few = absurd (omega (arith, few, entries-none o))
entry_below o m es (suc k) ids le few =
    let f = found_below es k (omega (arith, le)) in
    let e = f.0 in
    let more = ap (λ fs. entries_of o fs) (taken_more es k e f.1) in
    elim (cases_eq e.origin o) [
      | inl same ↦
          let own = ap (λ p. entries_of p (take k es ++ e ∷ [])) (sym same) ∙ entries-own (take k es) e
          ∙ ap (λ p. entries_of p (take k es) + 1) same in
          elim (cases_lt m (entries_of o (take k es))) [
            | inl below ↦ one_more es o (m + 1) k (entry_below o m es k ids (omega (arith, le)) below)
            | inr high ↦
                let id : e.id ≡ m + 1 =
                omega (arith, ids k e f.1, ap (λ p. entries_of p (take k es)) same, high, few, more, own) in
                (k, e, omega arith, f.1, same, id)
          ]
      | inr other ↦
          let below : m < entries_of o (take k es) =
          omega (arith, few, more, entries-other o (take k es) e other) in
          one_more es o (m + 1) k (entry_below o m es k ids (omega (arith, le)) below)
    ]
