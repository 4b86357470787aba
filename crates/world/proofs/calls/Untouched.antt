-- Entries that don't touch a key leave its item.
use Rattle.std.proofs.Common.{◌≡◌, ℕ, zero, suc, ◌≤◌, false, List, [], ◌∷◌, drop, refl, arith, ◌∙◌}
use Rattle.std.specs.List.{list_any}
use Rattle.std.proofs.lemmas.Bool.{or_parts}
use Rattle.table.specs.Plain.{Items, item_at, changed}
use Rattle.versions.specs.Entries.{LogEntry, is_clear}
use Rattle.versions.specs.Stores.{items_after, sets, touches}
use Rattle.versions.proofs.Logs.{item-changed}

untouched_one : (items : Items) (key : List ℕ) (e : LogEntry)
    → touches key e ≡ false
    → item_at (changed items e.target e.change) key ≡ item_at items key
untouched_one items key e h =
    let p = or_parts (sets key e.target e.change) (is_clear e.change) h in
    item-changed items e.target e.change key ∙ rw (p.1, p.0) refl

-- a key that no entry touches keeps its item
pub untouched : (items : Items) (key : List ℕ) (es : List LogEntry)
    → list_any (touches key) es ≡ false
    → item_at (items_after items es) key ≡ item_at items key
untouched items key [] h = refl
untouched items key (e ∷ es) h =
    let p = or_parts (touches key e) (list_any (touches key) es) h in
    untouched (changed items e.target e.change) key es p.1 ∙ untouched_one items key e p.0

none_behind : (key : List ℕ) (n : ℕ) (es : List LogEntry)
    → list_any (touches key) es ≡ false
    → list_any (touches key) (drop n es) ≡ false
none_behind key zero es h = h
none_behind key (suc n) [] h = h
none_behind key (suc n) (e ∷ es) h = none_behind key n es (or_parts (touches key e) (list_any (touches key) es) h).1

-- if none above a number touches the key, none above a greater one does
pub untouched_later : (key : List ℕ) (m n : ℕ) (es : List LogEntry)
    → m ≤ n
    → list_any (touches key) (drop m es) ≡ false
    → list_any (touches key) (drop n es) ≡ false
untouched_later key zero n es l h = none_behind key n es h
untouched_later key (suc m) zero es l h = absurd (omega arith)
untouched_later key (suc m) (suc n) [] l h = h
untouched_later key (suc m) (suc n) (e ∷ es) l h = untouched_later key m n es (omega arith) h
