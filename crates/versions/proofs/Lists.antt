-- Lists of numbers, and those of a log's entries.
use Rattle.std.proofs.Common.{◌≡◌, ℕ, zero, suc, ◌+◌, ◌-◌, ◌<◌, ◌≤◌, nat_lt, nat_le, Bool, true, false, cond, ◌||◌}
use Rattle.std.proofs.Common.{List, [], ◌∷◌, ◌++◌, length, take, drop, get_or, Option, None, Some, refl, sym, ap, ◌∙◌}
use Rattle.std.proofs.Common.{arith, Bor, ◌↔◌}
use Rattle.std.specs.List.{list_any, filter}
use Rattle.std.specs.List.Sorted.{IsPartitionedBy, IsPartitionPoint}
use Rattle.std.proofs.lemmas.List.{get_or-take, length-take-le}
use Rattle.std.specs.Option.{unwrap_or, option_map, IsSome, IfSome}
use Rattle.std.proofs.lemmas.Bool.Decides.{nat_tests}
use Rattle.versions.specs.Entries.{LogEntry}
use Rattle.versions.specs.Stores.{IsLog}
use Rattle.versions.specs.Numbers.{numbers_of, last_of, last_up_to, is_above, IsWithin, IsRising}

-- the last of a list is the one at its last place
pub last_of-at : (ns : List ℕ) (n : ℕ) → 0 < length ns → n ≡ get_or ns (length ns - 1) n → last_of ns ≡ Some n
last_of-at [] n some is = absurd (omega arith)
last_of-at (m ∷ []) n some is = ap Some (sym is)
last_of-at (m ∷ k ∷ ns) n some is =
    let tree_key : length (m ∷ k ∷ ns) - 1 ≡ suc (length (k ∷ ns) - 1) = omega arith in
    let is' : n ≡ get_or (k ∷ ns) (length (k ∷ ns) - 1) n = rw tree_key at is in
    ap (λ o. Some (unwrap_or o m)) (last_of-at (k ∷ ns) n (omega arith) is')

-- an empty list has no last number
pub last_of-none : (ns : List ℕ) → length ns ≡ 0 → last_of ns ≡ None
last_of-none [] e = refl
last_of-none (n ∷ ns) e = absurd (omega arith)

-- ---- the numbers of entries that pass a test

append_step : (b : Bool) (n : ℕ) (ks ls ms : List ℕ) → ks ≡ ls ++ ms → cond b (n ∷ ks) ks ≡ cond b (n ∷ ls) ls ++ ms
append_step true n ks ls ms e = ap (λ r. n ∷ r) e
append_step false n ks ls ms e = e

-- the numbers of two lists of entries are those of the first, and then those of the second
pub numbers_of-append : (test : LogEntry → Bool) (es fs : List LogEntry)
    → numbers_of test (es ++ fs) ≡ numbers_of test es ++ numbers_of test fs
numbers_of-append test [] fs = refl
numbers_of-append test (e ∷ es) fs = append_step (test e) e.number _ _ _ (numbers_of-append test es fs)

wider : (low high : ℕ) (o : Option ℕ) → IsWithin (low + 1) high o → IsWithin low high o
wider low high None h = tt
wider low high (Some k) h = (omega arith, h.1)

with_first : (low high n : ℕ) (o : Option ℕ)
    → n ≡ low + 1
    → low < high
    → IsWithin (low + 1) high o
    → IsWithin low high (Some (unwrap_or o n))
with_first low high n None is room h = (omega arith, omega arith)
with_first low high n (Some k) is room h = (omega arith, h.1)

within_step : (b : Bool) (low high n : ℕ) (ns : List ℕ)
    → n ≡ low + 1
    → low < high
    → IsWithin (low + 1) high (last_of ns)
    → IsWithin low high (last_of (cond b (n ∷ ns) ns))
within_step true low high n ns is room h = with_first low high n (last_of ns) is room h
within_step false low high n ns is room h = wider low high (last_of ns) h

within_to : (test : LogEntry → Bool) (floor high : ℕ) (es : List LogEntry)
    → IsLog floor es
    → high ≡ floor + length es
    → IsWithin floor high (last_of (numbers_of test es))
within_to test floor high [] log is = tt
within_to test floor high (e ∷ es) log is = within_step (test e) floor high e.number (numbers_of test es) log.1
    (omega arith) (within_to test (floor + 1) high es log.2 (omega arith))

-- the last one is above the floor, and no higher than the log's end
pub last-within : (test : LogEntry → Bool) (floor : ℕ) (es : List LogEntry)
    → IsLog floor es
    → IsWithin floor (floor + length es) (last_of (numbers_of test es))
last-within test floor es log = within_to test floor _ es log refl

rising_from : (low before : ℕ) (ns : List ℕ) → low ≤ before → IsRising before ns → IsRising low ns
rising_from low before [] le h = tt
rising_from low before (n ∷ ns) le h = (omega arith, h.1)

rising_step : (b : Bool) (floor n : ℕ) (ns : List ℕ)
    → n ≡ floor + 1
    → IsRising (floor + 1) ns
    → IsRising floor (cond b (n ∷ ns) ns)
rising_step true floor n ns is h = (omega arith, rising_from n (floor + 1) ns (omega arith) h)
rising_step false floor n ns is h = rising_from floor (floor + 1) ns (omega arith) h

-- they rise
pub numbers-rise : (test : LogEntry → Bool) (floor : ℕ) (es : List LogEntry)
    → IsLog floor es
    → IsRising floor (numbers_of test es)
numbers-rise test floor [] log = tt
numbers-rise test floor (e ∷ es) log =
    rising_step (test e) floor e.number (numbers_of test es) log.1 (numbers-rise test (floor + 1) es log.2)

none_up_to : (floor : ℕ) (ns : List ℕ) → IsRising floor ns → filter (λ k. nat_le k floor) ns ≡ []
none_up_to floor [] h = refl
none_up_to floor (n ∷ ns) h = let over : nat_le n floor ≡ false =
    grind (arith, nat_tests, h.0) in rw over (none_up_to floor ns (rising_from floor n ns (omega arith) h.1))

up_to_step : (b : Bool) (n m : ℕ) (ns ms : List ℕ)
    → n ≤ m
    → filter (λ k. nat_le k m) ns ≡ ms
    → filter (λ k. nat_le k m) (cond b (n ∷ ns) ns) ≡ cond b (n ∷ ms) ms
up_to_step true n m ns ms le e =
    let under : nat_le n m ≡ true = grind (arith, nat_tests, le) in rw under (ap (λ r. n ∷ r) e)
up_to_step false n m ns ms le e = e

taken : (test : LogEntry → Bool) (floor k n : ℕ) (es : List LogEntry)
    → IsLog floor es
    → n ≡ floor + k
    → filter (λ m. nat_le m n) (numbers_of test es) ≡ numbers_of test (take k es)
taken test floor zero n es log is = let same : n ≡ floor =
    omega arith in rw same (none_up_to floor (numbers_of test es) (numbers-rise test floor es log))
taken test floor (suc k) n [] log is = refl
taken test floor (suc k) n (e ∷ es) log is =
    up_to_step (test e) e.number n (numbers_of test es) (numbers_of test (take k es)) (omega (arith, log.1))
    (taken test (floor + 1) k n es log.2 (omega arith))

-- the last one up to a number is the last one of the entries up to it
pub last_up_to-taken : (test : LogEntry → Bool) (floor k n : ℕ) (es : List LogEntry)
    → IsLog floor es
    → n ≡ floor + k
    → last_up_to n (numbers_of test es) ≡ last_of (numbers_of test (take k es))
last_up_to-taken test floor k n es log is = ap last_of (taken test floor k n es log is)

-- ---- entries above a number

above_first : (floor high n : ℕ) (o : Option ℕ)
    → n ≡ floor + 1
    → IsWithin (floor + 1) high o
    → is_above floor (Some (unwrap_or o n)) ≡ true
above_first floor high n None is h = grind (arith, nat_tests)
above_first floor high n (Some k) is h = grind (arith, nat_tests, h.0)

above_lower : (floor high : ℕ) (o : Option ℕ) → IsWithin (floor + 1) high o → is_above (floor + 1) o ≡ is_above floor o
above_lower floor high None h = refl
above_lower floor high (Some k) h = let a : nat_lt (floor + 1) k ≡ true =
    grind (arith, nat_tests, h.0) in let b : nat_lt floor k ≡ true = grind (arith, nat_tests, h.0) in a ∙ sym b

any_step : (b : Bool) (floor high n : ℕ) (ns : List ℕ) (r : Bool)
    → n ≡ floor + 1
    → IsWithin (floor + 1) high (last_of ns)
    → r ≡ is_above floor (last_of ns)
    → (b || r) ≡ is_above floor (last_of (cond b (n ∷ ns) ns))
any_step true floor high n ns r is h e = sym (above_first floor high n (last_of ns) is h)
any_step false floor high n ns r is h e = e

any_is : (test : LogEntry → Bool) (floor : ℕ) (es : List LogEntry)
    → IsLog floor es
    → list_any test es ≡ is_above floor (last_of (numbers_of test es))
any_is test floor [] log = refl
any_is test floor (e ∷ es) log =
    let h = last-within test (floor + 1) es log.2 in
    any_step (test e) floor _ e.number (numbers_of test es) _ log.1 h
    (any_is test (floor + 1) es log.2 ∙ above_lower floor _ _ h)

not_above : (n m : ℕ) (o : Option ℕ) → m ≤ n → is_above n (Some (unwrap_or o m)) ≡ is_above n o
not_above n m None le = grind (arith, nat_tests, le)
not_above n m (Some j) le = refl

skip_step : (b : Bool) (n m : ℕ) (ns : List ℕ)
    → m ≤ n
    → is_above n (last_of (cond b (m ∷ ns) ns)) ≡ is_above n (last_of ns)
skip_step true n m ns le = not_above n m (last_of ns) le
skip_step false n m ns le = refl

-- an entry above a number passes the test exactly if the last that passes it is above that number
pub any-above : (test : LogEntry → Bool) (floor k n : ℕ) (es : List LogEntry)
    → IsLog floor es
    → n ≡ floor + k
    → list_any test (drop k es) ≡ is_above n (last_of (numbers_of test es))
any-above test floor zero n es log is = let same : n ≡ floor = omega arith in rw same (any_is test floor es log)
any-above test floor (suc k) n [] log is = refl
any-above test floor (suc k) n (e ∷ es) log is = any-above test (floor + 1) k n es log.2 (omega arith)
    ∙ sym (skip_step (test e) n e.number (numbers_of test es) (omega (arith, log.1)))

or_swap : (a b c d : Bool) → ((a || b) || (c || d)) ≡ ((a || c) || (b || d))
or_swap true b c d = refl
or_swap false true true d = refl
or_swap false true false d = refl
or_swap false false c d = refl

-- one of the entries passes either test exactly if one passes the first or one passes the second
pub any-or : (p q : LogEntry → Bool) (es : List LogEntry)
    → list_any (λ e. p e || q e) es ≡ (list_any p es || list_any q es)
any-or p q [] = refl
any-or p q (e ∷ es) = ap (λ r. (p e || q e) || r) (any-or p q es) ∙ or_swap (p e) (q e) (list_any p es) (list_any q es)

none_there : (n : ℕ) → (IsSome {T = Bor ℕ} None ↔ (0 < n)) → n ≡ 0
none_there zero there = refl
none_there (suc n) there = let never : false ≡ true = there.1 (omega arith) in cc

-- the last of a queue, as `back` answers it
pub last_of-back : (ns : List ℕ) (n : ℕ) (r : Option (Bor ℕ))
    → n ≡ length ns
    → (IsSome r ↔ (0 < n))
    → IfSome r (λ x. x.now ≡ get_or ns (n - 1) x.now)
    → option_map (λ x. x.now) r ≡ last_of ns
last_of-back ns n None len there is = sym (last_of-none ns (omega (arith, none_there n there)))
last_of-back ns n (Some x) len there is =
    let some : 0 < length ns = omega (arith, there.0 refl) in
    let same : n - 1 ≡ length ns - 1 = omega arith in
    sym (last_of-at ns x.now some (rw same at is))

-- ---- a binary search among numbers that rise

rising_all : (low : ℕ) (ns : List ℕ) (i d : ℕ) → IsRising low ns → i < length ns → low < get_or ns i d
rising_all low [] i d h below = absurd (omega arith)
rising_all low (n ∷ ns) zero d h below = h.0
rising_all low (n ∷ ns) (suc i) d h below = let more = rising_all n ns i d h.1 (omega arith) in omega (arith, more, h.0)

rising_le : (low : ℕ) (ns : List ℕ) (i j d : ℕ)
    → IsRising low ns
    → i ≤ j
    → j < length ns
    → get_or ns i d ≤ get_or ns j d
rising_le low [] i j d h le below = absurd (omega arith)
rising_le low (n ∷ ns) zero zero d h le below = omega arith
rising_le low (n ∷ ns) zero (suc j) d h le below =
    let more = rising_all n ns j d h.1 (omega arith) in omega (arith, more)
rising_le low (n ∷ ns) (suc i) zero d h le below = absurd (omega arith)
rising_le low (n ∷ ns) (suc i) (suc j) d h le below = rising_le n ns i j d h.1 (omega arith) (omega arith)

-- in rising numbers those up to n come first, as a binary search asks
pub partitioned-rising : (low n : ℕ) (ns : List ℕ) → IsRising low ns → IsPartitionedBy (λ k. nat_le k n) ns
partitioned-rising low n ns h i j d le below e =
    let order = rising_le low ns i j d h le below in grind (arith, nat_tests, order, e)

front_of : (p : ℕ → Bool) (ns : List ℕ) (k : ℕ)
    → ((i d : ℕ) → i < k → p (get_or ns i d) ≡ true)
    → ((i d : ℕ) → k ≤ i → i < length ns → p (get_or ns i d) ≡ false)
    → k ≤ length ns
    → filter p ns ≡ take k ns
front_of p [] zero t f le = refl
front_of p [] (suc k) t f le = absurd (omega arith)
front_of p (n ∷ ns) zero t f le =
    rw (f 0 0 (omega arith) (omega arith))
    (front_of p ns zero (λ i d h. absurd (omega arith)) (λ i d h g. f (suc i) d (omega arith) (omega arith))
    (omega arith))
front_of p (n ∷ ns) (suc k) t f le =
    rw (t 0 0 (omega arith))
    (ap (λ r. n ∷ r) (front_of p ns k (λ i d h. t (suc i) d (omega arith))
    (λ i d h g. f (suc i) d (omega arith) (omega arith)) (omega arith)))

-- the numbers up to n are those before the point that the search finds
pub front-from_point : (n : ℕ) (ns : List ℕ) (k : ℕ)
    → IsPartitionPoint (λ y. nat_le y n ≡ true) (λ y. nat_le y n ≡ false) ns k
    → k ≤ length ns
    → filter (λ m. nat_le m n) ns ≡ take k ns
front-from_point n ns k h le =
    front_of (λ m. nat_le m n) ns k (λ i d g. h.0 i d (omega arith) g) (λ i d g e. h.1 i d g e) le

-- the last of the first k numbers, as `get` answers it
pub last_of-front : (ns : List ℕ) (k : ℕ) (r : Option (Bor ℕ))
    → 0 < k
    → k ≤ length ns
    → (IsSome r ↔ (k - 1 < length ns))
    → IfSome r (λ x. x.now ≡ get_or ns (k - 1) x.now)
    → option_map (λ x. x.now) r ≡ last_of (take k ns)
last_of-front ns k None some le there is = let never : false ≡ true = there.1 (omega arith) in cc
last_of-front ns k (Some x) some le there is =
    let len : length (take k ns) ≡ k = length-take-le k ns le in
    let tree_key : length (take k ns) - 1 ≡ k - 1 = omega arith in
    let same : get_or (take k ns) (k - 1) x.now ≡ get_or ns (k - 1) x.now =
    get_or-take k ns (k - 1) x.now (omega arith) in
    let at : x.now ≡ get_or (take k ns) (length (take k ns) - 1) x.now = rw tree_key (is ∙ sym same) in
    sym (last_of-at (take k ns) x.now (omega arith) at)
