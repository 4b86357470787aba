-- Lists in the order of a number of their elements: where a binary search finds the one with a given number.
use Rattle.std.proofs.Common.{◌≡◌, ℕ, zero, suc, ◌<◌, ◌≤◌, nat_lt, ◌==◌, Bool, true, false, cond, List, [], ◌∷◌, length}
use Rattle.std.proofs.Common.{get_or, map, Some, None, Result, Ok, Err, refl, sym, ap, arith}
use Rattle.std.specs.Prelude.{position}
use Rattle.std.specs.List.{position_or_len}
use Rattle.std.specs.List.Sorted.{IsSearchInRange, IsBinarySearchResult, IsNonDecreasingBy}
use Rattle.std.specs.Ordering.{nat_cmp, ordering_index}
use Rattle.std.specs.Result.{result_ok}
use Rattle.std.proofs.lemmas.Bool.{eq-eqb, lt-ltb, ltb-true, ltb-false}
use Rattle.std.proofs.lemmas.Bool.Decides.{nat_tests}
use Rattle.std.proofs.lemmas.Cmp.{ranked}
use Rattle.versions.specs.Entries.{LogEntry}
use Rattle.versions.specs.Numbers.{IsRising}
use Rattle.node.specs.declared.servers.OpenUpdate.{OpenUpdate}
use Rattle.node.specs.declared.servers.OpenRead.{OpenRead}
use Rattle.node.specs.Servers.{without_first}
use Rattle.node.specs.Numbering.{without_update, left_open_by}
use Rattle.node.specs.Lawful.{AreUpdates, AreReads}

on_sides : (b : Bool) (k i : ℕ) (P : Type 0) → nat_lt k i ≡ b → (k < i → P) → (i ≤ k → P) → P
on_sides true k i P is before after = before (ltb-true _ _ is)
on_sides false k i P is before after = after (ltb-false _ _ is)

module _ {X : Type 0} (key : X → ℕ) where
  above : (low : ℕ) (xs : List X) (i : ℕ) (d : X)
      → IsRising low (map key xs)
      → i < length xs
      → low < key (get_or xs i d)
  above low [] i d h within = absurd (omega arith)
  above low (x ∷ xs) zero d h within = h.0
  above low (x ∷ xs) (suc i) d h within = let more = above (key x) xs i d h.1 (omega arith) in omega (arith, more, h.0)

  rising_le : (low : ℕ) (xs : List X) (i j : ℕ) (d : X)
      → IsRising low (map key xs)
      → i ≤ j
      → j < length xs
      → key (get_or xs i d) ≤ key (get_or xs j d)
  rising_le low [] i j d h le within = absurd (omega arith)
  rising_le low (x ∷ xs) zero zero d h le within = omega arith
  rising_le low (x ∷ xs) zero (suc j) d h le within =
      let more = above (key x) xs j d h.1 (omega arith) in omega (arith, more)
  rising_le low (x ∷ xs) (suc i) zero d h le within = absurd (omega arith)
  rising_le low (x ∷ xs) (suc i) (suc j) d h le within = rising_le (key x) xs i j d h.1 (omega arith) (omega arith)

  lower : (a b : ℕ) (xs : List X) → a ≤ b → IsRising b (map key xs) → IsRising a (map key xs)
  lower a b [] le h = tt
  lower a b (x ∷ xs) le h = (omega (arith, h.0), h.1)

  without_step : (b : Bool) (low : ℕ) (x : X) (xs rest : List X)
      → IsRising low (map key (x ∷ xs))
      → IsRising (key x) (map key rest)
      → IsRising low (map key (cond b xs (x ∷ rest)))
  without_step true low x xs rest h g = lower low (key x) xs (omega (arith, h.0)) h.1
  without_step false low x xs rest h g = (h.0, g)

  -- one fewer is in order too
  pub rising-without : (low : ℕ) (test : X → Bool) (xs : List X)
      → IsRising low (map key xs)
      → IsRising low (map key (without_first test xs))
  rising-without low test [] h = h
  rising-without low test (x ∷ xs) h = without_step (test x) low x xs _ h (rising-without (key x) test xs h.1)

  module _ (t : ℕ) where
    place_found : (low : ℕ) (xs : List X) (i : ℕ)
        → IsRising low (map key xs)
        → i < length xs
        → ((d : X) → key (get_or xs i d) ≡ t)
        → position_or_len (λ x. key x == t) xs ≡ i
    place_found low [] i h within is = absurd (omega arith)
    place_found low (x ∷ xs) zero h within is = rw (eq-eqb (key x) t (is x)) refl
    place_found low (x ∷ xs) (suc i) h within is =
        let more = above (key x) xs i x h.1 (omega arith) in
        let apart : (key x == t) ≡ false = grind (arith, nat_tests, more, is x) in
        let rest = place_found (key x) xs i h.1 (omega arith) is in rw apart (omega (arith, rest))

    place_missing : (xs : List X)
        → ((i : ℕ) (d : X) → i < length xs → (key (get_or xs i d) == t) ≡ false)
        → position_or_len (λ x. key x == t) xs ≡ length xs
    place_missing [] none = refl
    place_missing (x ∷ xs) none = let rest = place_missing xs (λ i d within. none (suc i) d (omega arith)) in
        rw (none 0 x (omega arith)) (omega (arith, rest))

    comparisons_rise : (low : ℕ) (xs : List X)
        → IsRising low (map key xs)
        → IsNonDecreasingBy (λ x. ordering_index (nat_cmp (key x) t)) xs
    comparisons_rise low xs h i j d le within =
        let order = rising_le low xs i j d h le within in grind (arith, nat_tests, order)

    found_step : (n m i : ℕ) → n ≡ i → i < m → Some i ≡ cond (nat_lt n m) (Some n) None
    found_step n m i is within = rw (lt-ltb n m (omega (arith, is))) (ap Some (sym is))

    missing_step : (n m : ℕ) (b : Bool) → nat_lt n m ≡ b → n ≡ m → None ≡ cond b (Some n) None
    missing_step n m true lt is = grind (arith, nat_tests, lt, is)
    missing_step n m false lt is = refl

    -- what a binary search answers is the first place
    pub searched : (low : ℕ) (xs : List X) (r : Result ℕ ℕ)
        → IsRising low (map key xs)
        → IsSearchInRange r (length xs)
        → IsBinarySearchResult (λ x. nat_cmp (key x) t) xs r
        → result_ok r ≡ position (λ x. key x == t) xs
    searched low xs (Ok i) h within equal =
        found_step _ (length xs) i (place_found low xs i h within (λ d. ranked _ t _ (sym (equal d)))) within
    searched low xs (Err i) h within parted =
        let point = parted (comparisons_rise low xs h) in
        let apart : (k : ℕ) (d : X) → k < length xs → (key (get_or xs k d) == t) ≡ false = λ k d inside.
        on_sides (nat_lt k i) k i _ refl
        (λ before. (let less : key (get_or xs k d) < t = ranked _ t _ (sym (point.0 k d (omega arith) before)) in grind
        (arith, nat_tests, less)))
        (λ after. (let more : t < key (get_or xs k d) = ranked _ t _ (sym (point.1 k d after inside)) in grind
        (arith, nat_tests, more))) in
        missing_step _ (length xs) _ refl (place_missing xs apart)

-- own calls and reads are in the order of their ids and asks
pub rising-updates : (above next_id : ℕ) (us : List OpenUpdate)
    → AreUpdates above us next_id
    → IsRising above (map (λ u. u.id) us)
rising-updates above next_id [] h = tt
rising-updates above next_id (u ∷ us) h = (h.0, rising-updates u.id next_id us h.3)

-- reads that wait are in the order of their asks
pub rising-reads : (above lower_bound next_ask acked : ℕ) (rs : List OpenRead)
    → AreReads above lower_bound rs next_ask acked
    → IsRising above (map (λ r. r.ask) rs)
rising-reads above lower_bound next_ask acked [] h = tt
rising-reads above lower_bound next_ask acked (r ∷ rs) h = (h.0, rising-reads r.ask r.lower_bound next_ask acked rs h.2)

left_step : (b : Bool) (us : List OpenUpdate) (id : ℕ)
    → IsRising 0 (map (λ u. u.id) us)
    → IsRising 0 (map (λ u. u.id) (cond b (without_update us id) us))
left_step true us id h = rising-without (λ u. u.id) 0 (λ u. u.id == id) us h
left_step false us id h = h

-- the own calls that an entry leaves open
pub rising-left_open_by : (id : ℕ) (us next : List OpenUpdate) (e : LogEntry)
    → next ≡ left_open_by id us e
    → IsRising 0 (map (λ u. u.id) us)
    → IsRising 0 (map (λ u. u.id) next)
rising-left_open_by id us next e is h = rw is (left_step (e.origin == id) us e.id h)
