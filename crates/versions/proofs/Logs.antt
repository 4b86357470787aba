-- What a key's item is after entries of a log, from the last one that set it and the last clear.
use Rattle.std.proofs.Common.{◌≡◌, ℕ, zero, suc, ◌+◌, ◌-◌, ◌<◌, nat_lt, Bool, true, false, cond, List, [], ◌∷◌, ◌++◌}
use Rattle.std.proofs.Common.{length, take, drop, Option, None, Some, refl, ap, ◌∙◌, arith}
use Rattle.std.specs.Option.{unwrap_or, option_and_then}
use Rattle.std.specs.List.{slice_get}
use Rattle.std.specs.FinMap.{get, get-insert, get-remove, get-empty}
use Rattle.std.specs.Cmp.{eq_by_cmp_equiv}
use Rattle.std.specs.Cmp.Lexicographic.{nat_list_cmp_total}
use Rattle.std.proofs.lemmas.Bool.Decides.{nat_tests}
use Rattle.table.specs.Keys.{key_cmp}
use Rattle.table.specs.Plain.{Items, item_at, changed}
use Rattle.table.specs.Items.{Item}
use Rattle.table.specs.declared.operations.Target.{Target}
use Rattle.table.specs.declared.operations.Target.TheVariants.{One, All}
use Rattle.table.specs.declared.operations.Change.{Change}
use Rattle.table.specs.declared.operations.Change.TheVariants.{Keep, Put, Drop, Clear}
use Rattle.versions.specs.Entries.{LogEntry, IsEntry, item_put, is_clear}
use Rattle.versions.specs.Stores.{IsLog, items_after, sets}
use Rattle.versions.specs.Numbers.{numbers_of, last_of, IsWithin}
use Rattle.versions.specs.Records.{item_from, item_put_at, item_after, is_set, is_cleared}
use Rattle.versions.proofs.Lists.{last-within}

-- a key's item after a change
pub item-changed : (items : Items) (target : Target) (change : Change) (q : List ℕ)
    → item_at (changed items target change) q ≡ item_after q target change (item_at items q)
item-changed items (One k) Keep q = refl
item-changed items (One k) (Put item) q = get-insert nat_list_cmp_total items k item q
    ∙ ap (λ b. cond b (Some item) (get items q)) ((eq_by_cmp_equiv nat_list_cmp_total).symm q k)
item-changed items (One k) Drop q = get-remove nat_list_cmp_total items k q
    ∙ ap (λ b. cond b None (get items q)) ((eq_by_cmp_equiv nat_list_cmp_total).symm q k)
item-changed items (One k) Clear q = get-empty key_cmp q
item-changed items All Keep q = refl
item-changed items All (Put item) q = refl
item-changed items All Drop q = refl
item-changed items All Clear q = get-empty key_cmp q

-- no change both sets a key and clears all
apart : (q : List ℕ) (target : Target) (change : Change) → sets q target change ≡ true → is_clear change ≡ true → ⊥
apart q (One k) Keep h e = cc
apart q (One k) (Put item) h e = cc
apart q (One k) Drop h e = cc
apart q (One k) Clear h e = cc
apart q All Keep h e = cc
apart q All (Put item) h e = cc
apart q All Drop h e = cc
apart q All Clear h e = cc

-- after the first entry, each place is one further
further : (e : LogEntry) (es : List LogEntry) (floor n : ℕ)
    → floor + 1 < n
    → item_put_at es (n - (floor + 1) - 1) ≡ item_put_at (e ∷ es) (n - floor - 1)
further e es floor n above = let tree_key : n - floor - 1 ≡ suc (n - (floor + 1) - 1) = omega arith in rw tree_key refl

-- the first entry does neither
past : (base : Option Item) (e : LogEntry) (es : List LogEntry) (floor high : ℕ) (set clear : Option ℕ)
    → IsWithin (floor + 1) high set
    → item_from base es (floor + 1) set clear ≡ item_from base (e ∷ es) floor set clear
past base e es floor high None None h = refl
past base e es floor high None (Some c) h = refl
past base e es floor high (Some a) None h = further e es floor a h.0
past base e es floor high (Some a) (Some c) h = ap (cond (nat_lt a c) None) (further e es floor a h.0)

first_put : (e : LogEntry) (es : List LogEntry) (floor n : ℕ)
    → n ≡ floor + 1
    → item_put e.change ≡ item_put_at (e ∷ es) (n - floor - 1)
first_put e es floor n is = let tree_key : n - floor - 1 ≡ 0 = omega arith in rw tree_key refl

-- the first entry sets the key
past_set : (base : Option Item) (e : LogEntry) (es : List LogEntry) (floor high n : ℕ) (set clear : Option ℕ)
    → n ≡ floor + 1
    → IsWithin (floor + 1) high set
    → IsWithin (floor + 1) high clear
    → item_from (item_put e.change) es (floor + 1) set clear
    ≡ item_from base (e ∷ es) floor (Some (unwrap_or set n)) clear
past_set base e es floor high n None None is h g = first_put e es floor n is
past_set base e es floor high n None (Some c) is h g =
    let before : nat_lt n c ≡ true = grind (arith, nat_tests, g.0) in rw before refl
past_set base e es floor high n (Some a) None is h g = past None e es floor high (Some a) None h
past_set base e es floor high n (Some a) (Some c) is h g = past None e es floor high (Some a) (Some c) h

-- the first entry clears all
past_clear : (base : Option Item) (e : LogEntry) (es : List LogEntry) (floor high n : ℕ) (set clear : Option ℕ)
    → n ≡ floor + 1
    → IsWithin (floor + 1) high set
    → item_from None es (floor + 1) set clear ≡ item_from base (e ∷ es) floor set (Some (unwrap_or clear n))
past_clear base e es floor high n None None is h = refl
past_clear base e es floor high n None (Some c) is h = refl
past_clear base e es floor high n (Some a) None is h =
    let after : nat_lt a n ≡ false = grind (arith, nat_tests, h.0) in rw after (further e es floor a h.0)
past_clear base e es floor high n (Some a) (Some c) is h = past None e es floor high (Some a) (Some c) h

past_first : (s c : Bool) (base : Option Item) (e : LogEntry) (es : List LogEntry) (floor high : ℕ)
    (sets clears : List ℕ)
    → (s ≡ true → c ≡ true → ⊥)
    → e.number ≡ floor + 1
    → IsWithin (floor + 1) high (last_of sets)
    → IsWithin (floor + 1) high (last_of clears)
    → item_from (cond c None (cond s (item_put e.change) base)) es (floor + 1) (last_of sets) (last_of clears)
    ≡ item_from base (e ∷ es) floor (last_of (cond s (e.number ∷ sets) sets))
    (last_of (cond c (e.number ∷ clears) clears))
past_first true true base e es floor high ss cs not_both is h g = absurd (not_both refl refl)
past_first true false base e es floor high ss cs not_both is h g =
    past_set base e es floor high e.number (last_of ss) (last_of cs) is h g
past_first false true base e es floor high ss cs not_both is h g =
    past_clear base e es floor high e.number (last_of ss) (last_of cs) is h
past_first false false base e es floor high ss cs not_both is h g =
    past base e es floor high (last_of ss) (last_of cs) h

-- a key's item after a log's entries is that of the last one that set it, unless a later one cleared it
pub item-after_log : (q : List ℕ) (items : Items) (floor : ℕ) (es : List LogEntry)
    → IsLog floor es
    → item_at (items_after items es) q ≡ item_from (item_at items q) es floor (last_of (numbers_of (is_set q) es))
    (last_of (numbers_of is_cleared es))
item-after_log q items floor [] log = refl
item-after_log q items floor (e ∷ es) log =
    item-after_log q (changed items e.target e.change) (floor + 1) es log.2
    ∙ ap (λ i. item_from i es (floor + 1) (last_of (numbers_of (is_set q) es)) (last_of (numbers_of is_cleared es)))
    (item-changed items e.target e.change q)
    ∙ past_first (is_set q e) (is_cleared e) (item_at items q) e es floor _ (numbers_of (is_set q) es)
    (numbers_of is_cleared es) (apart q e.target e.change) log.1 (last-within (is_set q) (floor + 1) es log.2)
    (last-within is_cleared (floor + 1) es log.2)

-- ---- parts of a log

-- a beginning of a log is a log
pub log-take : (floor k : ℕ) (es : List LogEntry) → IsLog floor es → IsLog floor (take k es)
log-take floor zero es log = tt
log-take floor (suc k) [] log = tt
log-take floor (suc k) (e ∷ es) log = (log.0, log.1, log-take (floor + 1) k es log.2)

-- what follows a beginning of a log is a log
pub log-drop : (floor k n : ℕ) (es : List LogEntry) → n ≡ floor + k → IsLog floor es → IsLog n (drop k es)
log-drop floor zero n es is log = let same : n ≡ floor = omega arith in rw same log
log-drop floor (suc k) n [] is log = tt
log-drop floor (suc k) n (e ∷ es) is log = log-drop (floor + 1) k n es (omega arith) log.2

-- a log with its next entry is a log
pub log-push : (floor : ℕ) (es : List LogEntry) (e : LogEntry)
    → IsEntry e
    → e.number ≡ floor + length es + 1
    → IsLog floor es
    → IsLog floor (es ++ e ∷ [])
log-push floor [] e valid next log = (valid, omega arith, tt)
log-push floor (f ∷ es) e valid next log = (log.0, log.1, log-push (floor + 1) es e valid (omega arith) log.2)

slice_get-take : (k i : ℕ) (es : List LogEntry) → i < k → slice_get (take k es) i ≡ slice_get es i
slice_get-take zero i es below = absurd (omega arith)
slice_get-take (suc k) i [] below = refl
slice_get-take (suc k) zero (e ∷ es) below = refl
slice_get-take (suc k) (suc i) (e ∷ es) below = slice_get-take k i es (omega arith)

-- entries that come later are not looked at
pub item_from-take : (base : Option Item) (es : List LogEntry) (floor k : ℕ) (set clear : Option ℕ)
    → IsWithin floor (floor + k) set
    → item_from base (take k es) floor set clear ≡ item_from base es floor set clear
item_from-take base es floor k None None h = refl
item_from-take base es floor k None (Some c) h = refl
item_from-take base es floor k (Some a) None h =
    ap (option_and_then (λ e. item_put e.change)) (slice_get-take k (a - floor - 1) es (omega (arith, h.0, h.1)))
item_from-take base es floor k (Some a) (Some c) h =
    ap (λ o. cond (nat_lt a c) None (option_and_then (λ e. item_put e.change) o))
    (slice_get-take k (a - floor - 1) es (omega (arith, h.0, h.1)))
