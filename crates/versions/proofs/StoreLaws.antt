-- What the changes of a store keep.
use Rattle.std.proofs.Common.{◌≡◌, ℕ, ◌+◌, ◌-◌, ◌≤◌, [], ◌∷◌, ◌++◌, length, drop, arith, length-drop, length-append}
use Rattle.versions.specs.Entries.{LogEntry, IsEntry}
use Rattle.versions.specs.Stores.{StoreState, IsStore, last_number, pushed, acked_to, dropped_to}
use Rattle.versions.proofs.Logs.{log-push, log-drop}

-- a store with its next entry is one
pub store-pushed : (s : StoreState) (e : LogEntry)
    → IsEntry e
    → e.number ≡ last_number s + 1
    → IsStore s
    → IsStore (pushed s e)
store-pushed s e valid next h = record {
  log = log-push s.floor s.rest e valid next h.log;
  floor_acked = h.floor_acked;
  acked_held = let l : length (s.rest ++ e ∷ []) ≡ length s.rest + 1 =
      length-append s.rest (e ∷ []) in omega (arith, h.acked_held, l);
}

-- a store whose commit number rises up to the last one is one
pub store-acked : (s : StoreState) (n : ℕ) → s.acked ≤ n → n ≤ last_number s → IsStore s → IsStore (acked_to s n)
store-acked s n low high h = record { log = h.log; floor_acked = omega (arith, h.floor_acked); acked_held = high }

-- a store whose floor rises up to the commit number is one
pub store-dropped : (s : StoreState) (n : ℕ) → s.floor ≤ n → n ≤ s.acked → IsStore s → IsStore (dropped_to s n)
store-dropped s n low high h = record {
  log = log-drop s.floor (n - s.floor) n s.rest (omega arith) h.log;
  floor_acked = high;
  acked_held = let l : length (drop (n - s.floor) s.rest) ≡ length s.rest - (n - s.floor) =
      length-drop (n - s.floor) s.rest in omega (arith, h.acked_held, l);
}

-- a floor that rises leaves the last number as it is
pub last-dropped : (s : StoreState) (n : ℕ)
    → s.floor ≤ n
    → n ≤ last_number s
    → last_number (dropped_to s n) ≡ last_number s
last-dropped s n low high = let l : length (drop (n - s.floor) s.rest) ≡ length s.rest - (n - s.floor) =
    length-drop (n - s.floor) s.rest in omega (arith, l)
