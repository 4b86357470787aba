-- A store over the log that it is of: as it changes, and what it gives.
use Rattle.std.proofs.Common.{◌≡◌, ℕ, ◌+◌, ◌-◌, ◌<◌, ◌≤◌, List, [], ◌∷◌, ◌++◌, length, take, drop, Some, refl, arith}
use Rattle.std.proofs.Common.{inl, inr, ap, sym, ◌∙◌, length-append, length-drop}
use Rattle.std.specs.Prelude.{slice_get}
use Rattle.std.proofs.lemmas.List.{drop-drop, drop-append-le, take-append-le}
use Rattle.std.proofs.lemmas.Option.{none-some as none_some, slice_get_within}
use Rattle.std.proofs.Math.Seq.{take-add}
use Rattle.table.specs.Plain.{item_at, opening as opening_table}
use Rattle.versions.specs.Entries.{LogEntry, IsEntry}
use Rattle.versions.specs.Stores.{StoreState, last_number, opening_store, items_after, items_at, value_at}
use Rattle.versions.specs.Stores.{entries_after, pushed, acked_to, dropped_to}
use Rattle.versions.proofs.Holding.{items_after-append}
use Rattle.node.proofs.Lists.{In, pushed_cases}
use Rattle.node.proofs.Beginnings.{slice_get-drop}
use Rattle.world.proofs.trace.Layers.{Holds}

-- the opening store is that of the empty log
pub holds_opening : Holds [] opening_store
holds_opening = record {
  within = omega arith;
  base = refl;
  rest = refl;
  floor = omega arith;
  acked = omega arith;
  numbered = λ k e h. absurd (none_some e h);
}

-- the last number is the log's length
pub held_last : (es : List LogEntry) (s : StoreState) → Holds es s → last_number s ≡ length es
held_last es s h = let l : length s.rest ≡ length es - s.floor =
    ap length h.rest ∙ length-drop s.floor es in omega (arith, h.within, l)

-- with one more entry in both, the store is that of the log
pub holds-pushed : (es : List LogEntry) (s : StoreState) (e : LogEntry)
    → Holds es s
    → IsEntry e
    → e.number ≡ last_number s + 1
    → Holds (es ++ e ∷ []) (pushed s e)
holds-pushed es s e h valid next =
    let l : length (es ++ e ∷ []) ≡ length es + 1 = length-append es (e ∷ []) in
    let last = held_last es s h in
    record {
      within = omega (arith, h.within, l);
      base = h.base ∙ ap (λ fs. items_after opening_table.items fs) (sym (take-append-le s.floor es (e ∷ []) h.within));
      rest = ap (λ fs. fs ++ e ∷ []) h.rest ∙ sym (drop-append-le s.floor es (e ∷ []) h.within);
      floor = h.floor;
      acked = omega (arith, h.acked, l);
      numbered = λ k f g. elim (pushed_cases es e k f g)
          [ inl old ↦ h.numbered k f old | inr new ↦ rw (new.0, new.1) (omega (arith, next, last), valid) ];
    }

-- the store stays that of the log as its commit number rises up to the last one
pub holds-acked_to : (es : List LogEntry) (s : StoreState) (n : ℕ)
    → Holds es s
    → s.acked ≤ n
    → n ≤ last_number s
    → Holds es (acked_to s n)
holds-acked_to es s n h low high =
    let last = held_last es s h in
    record {
      within = h.within;
      base = h.base;
      rest = h.rest;
      floor = omega (arith, h.floor);
      acked = omega arith;
      numbered = h.numbered;
    }

-- the items at a number are those after that number of entries
pub held_items : (es : List LogEntry) (s : StoreState) (n : ℕ)
    → Holds es s
    → s.floor ≤ n
    → items_at s n ≡ items_after opening_table.items (take n es)
held_items es s n h low =
    let sum : n ≡ s.floor + (n - s.floor) = omega arith in
    let parts : take n es ≡ take s.floor es ++ take (n - s.floor) (drop s.floor es) =
    ap (λ m. take m es) sum ∙ take-add s.floor (n - s.floor) es in
    ap (λ fs. items_after s.base (take (n - s.floor) fs)) h.rest
    ∙ ap (λ items. items_after items (take (n - s.floor) (drop s.floor es))) h.base
    ∙ sym (items_after-append opening_table.items (take s.floor es) (take (n - s.floor) (drop s.floor es)))
    ∙ ap (λ fs. items_after opening_table.items fs) (sym parts)

-- a key's item at a number, from the floor on, is that after as many entries of the log
pub held_value : (es : List LogEntry) (s : StoreState) (key : List ℕ) (n : ℕ)
    → Holds es s
    → s.floor ≤ n
    → value_at s key n ≡ item_at (items_after opening_table.items (take n es)) key
held_value es s key n h low = ap (λ items. item_at items key) (held_items es s n h low)

-- what comes after a number
pub held_after : (es : List LogEntry) (s : StoreState) (n : ℕ)
    → Holds es s
    → s.floor ≤ n
    → entries_after s n ≡ drop n es
held_after es s n h low =
    let sum : s.floor + (n - s.floor) ≡ n = omega arith in
    ap (λ fs. drop (n - s.floor) fs) h.rest ∙ drop-drop (n - s.floor) s.floor es ∙ ap (λ m. drop m es) sum

-- the store stays that of the log as its floor rises up to the commit number
pub holds-dropped_to : (es : List LogEntry) (s : StoreState) (n : ℕ)
    → Holds es s
    → s.floor ≤ n
    → n ≤ s.acked
    → Holds es (dropped_to s n)
holds-dropped_to es s n h low high = record {
  within = omega (arith, h.acked);
  base = held_items es s n h low;
  rest = held_after es s n h low;
  floor = high;
  acked = h.acked;
  numbered = h.numbered;
}

-- an entry of the store stands at its place in the log
pub record IsHeld (es : List LogEntry) (floor : ℕ) (e : LogEntry) : Type 0 where
  pub low : 1 ≤ e.number
  pub ordinal : slice_get es (e.number - 1) ≡ Some e
  pub above : floor < e.number
  pub high : e.number ≤ length es
  pub valid : IsEntry e

-- an entry that the store has above its floor stands at its place in the log
pub held_entry : (es : List LogEntry) (s : StoreState) (e : LogEntry) → Holds es s → In e s.rest → IsHeld es s.floor e
held_entry es s e h i =
    let at : slice_get es (s.floor + i.0) ≡ Some e =
    sym (ap (λ fs. slice_get fs i.0) h.rest ∙ slice_get-drop s.floor es i.0) ∙ i.1 in
    let is = h.numbered (s.floor + i.0) e at in
    let ordinal : e.number - 1 ≡ s.floor + i.0 = omega (arith, is.0) in
    let less = slice_get_within es (s.floor + i.0) e at in
    record {
      low = omega (arith, is.0);
      ordinal = rw ordinal at;
      above = omega (arith, is.0);
      high = omega (arith, is.0, less);
      valid = is.1;
    }
