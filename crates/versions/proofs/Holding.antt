-- What a store keeps, and what its fields answer.
use Rattle.std.proofs.Common.{◌≡◌, ℕ, zero, suc, ◌+◌, ◌-◌, ◌≤◌, Bool, true, false, ◌||◌, not, List, [], ◌∷◌, ◌++◌}
use Rattle.std.proofs.Common.{length, take, drop, Option, None, Some, refl, sym, ap, ◌∙◌, arith, length-append}
use Rattle.std.proofs.Common.{length-drop, add-one}
use Rattle.std.specs.List.{list_any}
use Rattle.std.proofs.lemmas.List.{length-take-le, take_all}
use Rattle.table.specs.Plain.{Items, item_at, changed}
use Rattle.table.specs.Items.{Item}
use Rattle.versions.specs.Entries.{LogEntry, IsEntry}
use Rattle.versions.specs.Stores.{IsLog, items_after, touches}
use Rattle.versions.specs.Numbers.{numbers_of, last_of, last_up_to, is_above, IsWithin, IsRising}
use Rattle.versions.specs.Records.{record_at, item_in, numbers_in, base_of, item_from, is_set, is_cleared, IsIndex}
use Rattle.versions.specs.Records.{IsHeld}
use Rattle.versions.specs.Records.{Record}
use Rattle.versions.proofs.Lists.{last_up_to-taken, last-within, numbers-rise, numbers_of-append, any-above, any-or}
use Rattle.versions.proofs.Logs.{item-after_log, log-take, log-drop, log-push, item_from-take}
use Rattle.versions.proofs.Bases.{item-base_of}

-- the records of a store, each with its key
abbrev pub Records : Type 0
Records = List (List ℕ × Record)

-- ---- look-ups

from_zero : (low : ℕ) (ns : List ℕ) → IsRising low ns → IsRising 0 ns
from_zero low [] h = tt
from_zero low (n ∷ ns) h = (omega (arith, h.0), h.1)

-- the numbers of a key rise
pub numbers_held-rise : (rs : Records) (cl : List ℕ) (es : List LogEntry) (floor acked last : ℕ)
    → IsHeld rs cl es floor acked last
    → (key : List ℕ)
    → IsRising 0 (numbers_in (record_at rs key))
numbers_held-rise rs cl es floor acked last h key =
    rw (h.index.of_keys key) (from_zero floor _ (numbers-rise (is_set key) floor es h.store.log))

-- the numbers of the clears rise
pub clears_held-rise : (rs : Records) (cl : List ℕ) (es : List LogEntry) (floor acked last : ℕ)
    → IsHeld rs cl es floor acked last
    → IsRising 0 cl
clears_held-rise rs cl es floor acked last h =
    rw h.index.of_clears (from_zero floor _ (numbers-rise is_cleared floor es h.store.log))

item_from_none : (es : List LogEntry) (floor : ℕ) (cleared : Option ℕ) → item_from None es floor None cleared ≡ None
item_from_none es floor None = refl
item_from_none es floor (Some c) = refl

from_record : {A : Type 0} (r : Record) (o : Option Record) (f : Option Item → List ℕ → A)
    → Some r ≡ o
    → f (item_in o) (numbers_in o) ≡ f r.item r.numbers
from_record r o f is = ap (λ p. f (item_in p) (numbers_in p)) (sym is)

-- the newest version of a key
newest_is : (rs : Records) (cl : List ℕ) (es : List LogEntry) (floor acked last : ℕ)
    → IsHeld rs cl es floor acked last
    → (key : List ℕ)
    → item_at (items_after (base_of rs) (take (floor + length es - floor) es)) key
    ≡ item_from (item_in (record_at rs key)) es floor (last_of (numbers_in (record_at rs key))) (last_of cl)
newest_is rs cl es floor acked last h key =
    let all : take (floor + length es - floor) es ≡ es = take_all _ es (omega arith) in
    rw (all, h.index.of_keys key, h.index.of_clears)
    (item-after_log key (base_of rs) floor es h.store.log
    ∙ ap (λ i. item_from i es floor (last_of (numbers_of (is_set key) es)) (last_of (numbers_of is_cleared es)))
    (item-base_of rs key))

-- a key's item from its last number, and the last clear's, is that after all entries
pub newest-held : (rs : Records) (cl : List ℕ) (es : List LogEntry) (floor acked last : ℕ)
    → IsHeld rs cl es floor acked last
    → (key : List ℕ) (r : Record)
    → Some r ≡ record_at rs key
    → item_from r.item es floor (last_of r.numbers) (last_of cl)
    ≡ item_at (items_after (base_of rs) (take (floor + length es - floor) es)) key
newest-held rs cl es floor acked last h key r is =
    sym (newest_is rs cl es floor acked last h key
    ∙ from_record r _ (λ i ns. item_from i es floor (last_of ns) (last_of cl)) is)

-- a key without record has no item after all entries
pub newest-absent : (rs : Records) (cl : List ℕ) (es : List LogEntry) (floor acked last : ℕ)
    → IsHeld rs cl es floor acked last
    → (key : List ℕ)
    → record_at rs key ≡ None
    → item_at (items_after (base_of rs) (take (floor + length es - floor) es)) key ≡ None
newest-absent rs cl es floor acked last h key is =
    newest_is rs cl es floor acked last h key
    ∙ ap (λ o. item_from (item_in o) es floor (last_of (numbers_in o)) (last_of cl)) is
    ∙ item_from_none es floor (last_of cl)

-- the last number of a key is that of an entry above the floor
pub newest-within : (rs : Records) (cl : List ℕ) (es : List LogEntry) (floor acked last : ℕ)
    → IsHeld rs cl es floor acked last
    → (key : List ℕ) (r : Record)
    → Some r ≡ record_at rs key
    → IsWithin floor (floor + length es) (last_of r.numbers)
newest-within rs cl es floor acked last h key r is =
    let names : r.numbers ≡ numbers_of (is_set key) es = ap numbers_in is ∙ h.index.of_keys key in
    rw names (last-within (is_set key) floor es h.store.log)

-- the version of a key at a number
at_tree_key : (floor n : ℕ) → floor ≤ n → n ≡ floor + (n - floor)
at_tree_key floor n le = omega arith

at_is : (rs : Records) (cl : List ℕ) (es : List LogEntry) (floor acked last n : ℕ)
    → IsHeld rs cl es floor acked last
    → floor ≤ n
    → n ≤ floor + length es
    → (key : List ℕ)
    → item_at (items_after (base_of rs) (take (n - floor) es)) key ≡ item_from (item_in (record_at rs key)) es floor
    (last_up_to n (numbers_in (record_at rs key))) (last_up_to n cl)
at_is rs cl es floor acked last n h above known key =
    let k = n - floor in
    let log = log-take floor (n - floor) es h.store.log in
    let tree_key : n ≡ floor + (n - floor) = at_tree_key floor n above in
    let sets_to : last_up_to n (numbers_of (is_set key) es) ≡ last_of (numbers_of (is_set key) (take (n - floor) es)) =
    last_up_to-taken (is_set key) floor (n - floor) n es h.store.log tree_key in
    let clears_to : last_up_to n (numbers_of is_cleared es) ≡ last_of (numbers_of is_cleared (take (n - floor) es)) =
    last_up_to-taken is_cleared floor (n - floor) n es h.store.log tree_key in
    let within : IsWithin floor (floor + (n - floor)) (last_of (numbers_of (is_set key) (take (n - floor) es))) =
    within_taken floor (n - floor) es key h.store.log (omega arith) in
    rw (h.index.of_keys key, h.index.of_clears, sets_to, clears_to)
    (item-after_log key (base_of rs) floor (take (n - floor) es) log
    ∙ ap (λ i. item_from i (take (n - floor) es) floor (last_of (numbers_of (is_set key) (take (n - floor) es)))
    (last_of (numbers_of is_cleared (take (n - floor) es)))) (item-base_of rs key)
    ∙ item_from-take (item_in (record_at rs key)) es floor (n - floor) _ _ within)
  where
    within_taken : (floor k : ℕ) (es : List LogEntry) (key : List ℕ)
        → IsLog floor es
        → k ≤ length es
        → IsWithin floor (floor + k) (last_of (numbers_of (is_set key) (take k es)))
    within_taken floor k es key log le =
        let len : length (take k es) ≡ k = length-take-le k es le in
        let h : IsWithin floor (floor + length (take k es)) (last_of (numbers_of (is_set key) (take k es))) =
        last-within (is_set key) floor (take k es) (log-take floor k es log) in
        rw len at h

-- a key's item from its last number up to n, and the last clear's, is that at n
pub at-held : (rs : Records) (cl : List ℕ) (es : List LogEntry) (floor acked last n : ℕ)
    → IsHeld rs cl es floor acked last
    → floor ≤ n
    → n ≤ floor + length es
    → (key : List ℕ) (r : Record)
    → Some r ≡ record_at rs key
    → item_from r.item es floor (last_up_to n r.numbers) (last_up_to n cl)
    ≡ item_at (items_after (base_of rs) (take (n - floor) es)) key
at-held rs cl es floor acked last n h above known key r is =
    sym (at_is rs cl es floor acked last n h above known key
    ∙ from_record r _ (λ i ns. item_from i es floor (last_up_to n ns) (last_up_to n cl)) is)

-- a key without record has no item at n
pub at-absent : (rs : Records) (cl : List ℕ) (es : List LogEntry) (floor acked last n : ℕ)
    → IsHeld rs cl es floor acked last
    → floor ≤ n
    → n ≤ floor + length es
    → (key : List ℕ)
    → record_at rs key ≡ None
    → item_at (items_after (base_of rs) (take (n - floor) es)) key ≡ None
at-absent rs cl es floor acked last n h above known key is =
    at_is rs cl es floor acked last n h above known key
    ∙ ap (λ o. item_from (item_in o) es floor (last_up_to n (numbers_in o)) (last_up_to n cl)) is
    ∙ item_from_none es floor (last_up_to n cl)

wider_above : (low high more : ℕ) (o : Option ℕ) → high ≤ more → IsWithin low high o → IsWithin low more o
wider_above low high more None le h = tt
wider_above low high more (Some k) le h = (h.0, omega (arith, h.1))

-- the last number of a key up to n is that of an entry above the floor
pub at-within : (rs : Records) (cl : List ℕ) (es : List LogEntry) (floor acked last n : ℕ)
    → IsHeld rs cl es floor acked last
    → floor ≤ n
    → n ≤ floor + length es
    → (key : List ℕ) (r : Record)
    → Some r ≡ record_at rs key
    → IsWithin floor (floor + length es) (last_up_to n r.numbers)
at-within rs cl es floor acked last n h above known key r is =
    let names : r.numbers ≡ numbers_of (is_set key) es = ap numbers_in is ∙ h.index.of_keys key in
    let len : length (take (n - floor) es) ≡ n - floor = length-take-le (n - floor) es (omega arith) in
    let w = last-within (is_set key) floor (take (n - floor) es) (log-take floor (n - floor) es h.store.log) in
    rw (names, last_up_to-taken (is_set key) floor (n - floor) n es h.store.log (at_tree_key floor n above))
    (wider_above floor _ (floor + length es) _ (omega arith) w)

-- whether a key is dirty
pub dirty-held : (rs : Records) (cl : List ℕ) (es : List LogEntry) (floor acked last : ℕ)
    → IsHeld rs cl es floor acked last
    → (key : List ℕ)
    → list_any (touches key) (drop (acked - floor) es)
    ≡ (is_above acked (last_of (numbers_in (record_at rs key))) || is_above acked (last_of cl))
dirty-held rs cl es floor acked last h key =
    rw (h.index.of_keys key, h.index.of_clears)
    (any-or (is_set key) is_cleared (drop (acked - floor) es)
    ∙ both _ _ _ _ (any-above (is_set key) floor (acked - floor) acked es h.store.log
    (at_tree_key floor acked h.store.floor_acked))
    (any-above is_cleared floor (acked - floor) acked es h.store.log (at_tree_key floor acked h.store.floor_acked)))
  where
    both : (a b c d : Bool) → a ≡ c → b ≡ d → (a || b) ≡ (c || d)
    both a b c d e f = cc

-- ---- changes

-- the same numbers are held if nothing changed
pub held-same : (rs ss : Records) (cl dl : List ℕ) (es fs : List LogEntry) (floor acked last : ℕ)
    → IsHeld rs cl es floor acked last
    → ((q : List ℕ) → numbers_in (record_at ss q) ≡ numbers_in (record_at rs q))
    → dl ≡ cl
    → fs ≡ es
    → IsHeld ss dl fs floor acked last
held-same rs ss cl dl es fs floor acked last h numbers clears entries =
    rw (clears, entries) (record {
      store = record { log = h.store.log; floor_acked = h.store.floor_acked; acked_held = h.store.acked_held };
      index = record { of_keys = λ q. numbers q ∙ h.index.of_keys q; of_clears = h.index.of_clears };
      counted = h.counted;
    })

-- one more entry is held
pub held-push : (rs ss : Records) (cl dl : List ℕ) (es fs : List LogEntry) (floor acked last number : ℕ) (e : LogEntry)
    → IsHeld rs cl es floor acked last
    → IsEntry e
    → e.number ≡ floor + length es + 1
    → number ≡ e.number
    → ((q : List ℕ) → numbers_in (record_at ss q) ≡ numbers_in (record_at rs q) ++ numbers_of (is_set q) (e ∷ []))
    → dl ≡ cl ++ numbers_of is_cleared (e ∷ [])
    → fs ≡ es ++ e ∷ []
    → IsHeld ss dl fs floor acked number
held-push rs ss cl dl es fs floor acked last number e h valid next same numbers clears entries =
    let len : length (es ++ e ∷ []) ≡ length es + 1 = length-append es (e ∷ []) in
    rw (clears, entries) (record {
      store = record {
        log = log-push floor es e valid next h.store.log;
        floor_acked = h.store.floor_acked;
        acked_held = omega (arith, h.store.acked_held);
      };
      index = record {
        of_keys = λ q. numbers q ∙ ap (λ ns. ns ++ numbers_of (is_set q) (e ∷ [])) (h.index.of_keys q)
            ∙ sym (numbers_of-append (is_set q) es (e ∷ []));
        of_clears =
            ap (λ ns. ns ++ numbers_of is_cleared (e ∷ [])) h.index.of_clears
            ∙ sym (numbers_of-append is_cleared es (e ∷ []));
      };
      counted = omega arith;
    })

-- entries up to a number are item_from
pub held-drop : (rs ss : Records) (cl dl : List ℕ) (es fs : List LogEntry) (floor acked last n : ℕ)
    → IsHeld rs cl es floor acked last
    → floor ≤ n
    → n ≤ acked
    → IsIndex ss dl fs
    → fs ≡ drop (n - floor) es
    → IsHeld ss dl fs n acked last
held-drop rs ss cl dl es fs floor acked last n h above below index entries =
    let len : length (drop (n - floor) es) ≡ length es - (n - floor) = length-drop (n - floor) es in
    let same : length fs ≡ length (drop (n - floor) es) = ap length entries in
    record {
      store = record {
        log = rw entries (log-drop floor (n - floor) n es (at_tree_key floor n above) h.store.log);
        floor_acked = below;
        acked_held = omega (arith, h.store.acked_held);
      };
      index = index;
      counted = omega (arith, h.counted, h.store.acked_held);
    }

-- ---- one entry is item_from

-- the base with the first entry's change is the base after that entry
pub next_base : (rs ss : Records) (es fs : List LogEntry) (e : LogEntry)
    → es ≡ e ∷ fs
    → base_of ss ≡ changed (base_of rs) e.target e.change
    → base_of ss ≡ items_after (base_of rs) (take 1 es)
next_base rs ss es fs e is h = rw is h

-- ---- some entries are item_from

-- the items after two lists of entries are those after the second, from those after the first
pub items_after-append : (items : Items) (es fs : List LogEntry)
    → items_after items (es ++ fs) ≡ items_after (items_after items es) fs
items_after-append items [] fs = refl
items_after-append items (e ∷ es) fs = items_after-append (changed items e.target e.change) es fs

take_suc : (k : ℕ) (es : List LogEntry) → take (suc k) es ≡ take k es ++ take 1 (drop k es)
take_suc zero es = refl
take_suc (suc k) [] = refl
take_suc (suc k) (e ∷ es) = ap (λ r. e ∷ r) (take_suc k es)

take_more : (k : ℕ) (es : List LogEntry) → take (k + 1) es ≡ take k es ++ take 1 (drop k es)
take_more k es = rw add-one (take_suc k es)

drop_suc : (k : ℕ) (es : List LogEntry) → drop (suc k) es ≡ drop 1 (drop k es)
drop_suc zero es = refl
drop_suc (suc k) [] = refl
drop_suc (suc k) (e ∷ es) = drop_suc k es

drop_more : (k : ℕ) (es : List LogEntry) → drop (k + 1) es ≡ drop 1 (drop k es)
drop_more k es = rw add-one (drop_suc k es)

-- one entry more has moved to the base
pub more_settled : (items : Items) (k : ℕ) (es fs : List LogEntry) (b c : Items)
    → fs ≡ drop k es
    → b ≡ items_after items (take k es)
    → c ≡ items_after b (take 1 fs)
    → c ≡ items_after items (take (k + 1) es)
more_settled items k es fs b c is h g =
    rw (g, is, h, take_more k es) (sym (items_after-append items (take k es) (take 1 (drop k es))))

-- one entry more is taken off those above the floor
pub more_dropped : (k : ℕ) (es fs gs : List LogEntry) → fs ≡ drop k es → gs ≡ drop 1 fs → gs ≡ drop (k + 1) es
more_dropped k es fs gs is h = h ∙ ap (drop 1) is ∙ sym (drop_more k es)

-- ---- two tests of a key: a result is there exactly if both fail

-- if neither of two tests holds, it is right to say that none does
pub is_neither : (a b : Bool)
    → a ≡ false
    → b ≡ false
    → (true ≡ true → not (a || b) ≡ true) × (not (a || b) ≡ true → true ≡ true)
is_neither a b is same = (λ t. rw (is, same) refl, λ h. refl)

-- if the first of two tests holds, it is right to deny that none does
pub is_first : (a b : Bool) → a ≡ true → (false ≡ true → not (a || b) ≡ true) × (not (a || b) ≡ true → false ≡ true)
is_first a b is = (λ f. cc, rw is (λ h. h))

-- if the second of two tests holds, it is right to deny that none does
pub is_second : (a b : Bool) → b ≡ true → (false ≡ true → not (a || b) ≡ true) × (not (a || b) ≡ true → false ≡ true)
is_second true b is = (λ f. cc, λ h. h)
is_second false b is = (λ f. cc, rw is (λ h. h))
