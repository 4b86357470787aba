-- Two lists of entries together, as one of them changes.
use Rattle.std.proofs.Common.{◌≡◌, ℕ, zero, suc, ◌+◌, ◌-◌, ◌<◌, Bool, true, false, cond, List, [], ◌∷◌, ◌++◌, length}
use Rattle.std.proofs.Common.{set, take, get_or, length-append, append-nil, append_assoc}
use Rattle.std.proofs.Common.{Option, None, Some, refl, sym, ap, ◌∙◌, ⊎_elim, arith, subst}
use Rattle.std.specs.Option.{IsSome, is_some, option_or}
use Rattle.std.specs.Prelude.{Result, Ok, Err, OnOk, OnErr}
use Rattle.std.proofs.lemmas.List.{get_or_read, length-take-le, length-set, take_more}
use Rattle.std.proofs.lemmas.Bool.{cases_Bool, cond-true, cond-false}
use Rattle.std.specs.Cmp.Lexicographic.{nat_list_cmp_total}
use Rattle.std.specs.FinMap.{len, from_entries, len-insert, len-empty}
use Rattle.table.specs.Keys.{key_cmp}
use Rattle.table.proofs.TreeKeyLaws.{tree_key_tie, tree_key_itself, get_tree_key}
use Rattle.hash_index.specs.Entries.{value_at, AreApart}
use Rattle.hash_index.specs.Tables.{joined, bucket_at, HasNow, SameValues}
use Rattle.hash_index.proofs.EntryLaws.{same, same_turned, value_at-append, value_at-left_none, some_or, none_or_some}
use Rattle.hash_index.proofs.EntryLaws.{not_both, AreApart-append, AreApart-left, AreApart-right, AreApart-other}
use Rattle.hash_index.proofs.EntryLaws.{length-keys_same}
use Rattle.hash_index.proofs.SplitLaws.{put_back}

module _ {V : Type 0} where
  left_of : (o p : Option V) → option_or o p ≡ None → o ≡ None
  left_of None p e = refl
  left_of (Some x) p e = cc

  -- a key that both lists lack
  pub none_left_of : (xs ys : List (List ℕ × V)) (k : List ℕ) → value_at (xs ++ ys) k ≡ None → value_at xs k ≡ None
  none_left_of xs ys k none = left_of (value_at xs k) (value_at ys k) (sym (value_at-append xs ys k) ∙ none)

  pub none_right_of : (xs ys : List (List ℕ × V)) (k : List ℕ) → value_at (xs ++ ys) k ≡ None → value_at ys k ≡ None
  none_right_of xs ys k none = sym (value_at-left_none xs ys k (none_left_of xs ys k none)) ∙ none

  -- what the first list has the second hasn't
  pub other_of : (xs ys : List (List ℕ × V)) → AreApart (xs ++ ys) → (q : List ℕ) → IsSome (value_at xs q)
      → value_at ys q ≡ None
  other_of xs ys a q some =
      ⊎_elim (λ none. none)
      (λ there. absurd (not_both (value_at xs q) (AreApart-other xs ys a q there) some))
      (none_or_some (value_at ys q))

  -- what is in the first list is found
  pub found_left : (xs ys : List (List ℕ × V)) (k : List ℕ) → IsSome (value_at xs k)
      → value_at (xs ++ ys) k ≡ value_at xs k
  found_left xs ys k some = value_at-append xs ys k ∙ some_or (value_at xs k) (value_at ys k) some

  some_is : (o : Option V) (v : V) → o ≡ Some v → IsSome o
  some_is o v e = ap is_some e

  pub found_left_as : (xs ys : List (List ℕ × V)) (k : List ℕ) (v : V) → value_at xs k ≡ Some v
      → value_at (xs ++ ys) k ≡ Some v
  found_left_as xs ys k v e = found_left xs ys k (some_is (value_at xs k) v e) ∙ e

  -- ---- the first changes at one key

  chosen : (b : Bool) (w o p : Option V) → (b ≡ true → p ≡ None) → option_or (cond b w o) p ≡ cond b w (option_or o p)
  chosen true None o p h = h refl
  chosen true (Some v) o p h = refl
  chosen false w o p h = refl

  pub has_left : (xs zs ys : List (List ℕ × V)) (k : List ℕ) (w : Option V) → HasNow k w xs zs → value_at ys k ≡ None
      → HasNow k w (xs ++ ys) (zs ++ ys)
  has_left xs zs ys k w h none q =
      value_at-append zs ys q ∙ ap (λ o. option_or o (value_at ys q)) (h q)
      ∙ chosen (same k q) w (value_at xs q) (value_at ys q)
      (λ t. ap (value_at ys) (sym (tree_key_tie k q t)) ∙ none)
      ∙ ap (cond (same k q) w) (sym (value_at-append xs ys q))

  pub has_left_apart : (xs zs ys : List (List ℕ × V)) (k : List ℕ) (w : Option V) → AreApart zs → AreApart (xs ++ ys)
      → HasNow k w xs zs → value_at ys k ≡ None → AreApart (zs ++ ys)
  has_left_apart xs zs ys k w z a h none =
      AreApart-append zs ys z (AreApart-right xs ys a)
      (λ q some. ⊎_elim (λ t. ap (value_at ys) (sym (tree_key_tie k q t)) ∙ none)
      (λ f. other_of xs ys a q
      (sym (ap is_some (h q ∙ cond-false (same k q) w (value_at xs q) f)) ∙ some))
      (cases_Bool (same k q)))

  -- ---- the second changes at one key

  chosen_right : (b : Bool) (w o p : Option V) → (b ≡ true → o ≡ None) → option_or o (cond b w p) ≡ cond b w
      (option_or o p)
  chosen_right true w o p h = ap (λ x. option_or x w) (h refl)
  chosen_right false w o p h = refl

  pub has_right : (xs ys zs : List (List ℕ × V)) (k : List ℕ) (w : Option V) → HasNow k w ys zs → value_at xs k ≡ None
      → HasNow k w (xs ++ ys) (xs ++ zs)
  has_right xs ys zs k w h none q =
      value_at-append xs zs q ∙ ap (option_or (value_at xs q)) (h q)
      ∙ chosen_right (same k q) w (value_at xs q) (value_at ys q)
      (λ t. ap (value_at xs) (sym (tree_key_tie k q t)) ∙ none)
      ∙ ap (cond (same k q) w) (sym (value_at-append xs ys q))

  pub has_right_apart : (xs ys zs : List (List ℕ × V)) (k : List ℕ) (w : Option V) → AreApart zs → AreApart (xs ++ ys)
      → HasNow k w ys zs → value_at xs k ≡ None → AreApart (xs ++ zs)
  has_right_apart xs ys zs k w z a h none =
      AreApart-append xs zs (AreApart-left xs ys a) z
      (λ q some. ⊎_elim
      (λ t. absurd (not_both (value_at xs q) (ap (value_at xs) (sym (tree_key_tie k q t)) ∙ none) some))
      (λ f. h q ∙ cond-false (same k q) w (value_at ys q) f ∙ other_of xs ys a q some)
      (cases_Bool (same k q)))

  -- ---- the first changes at no key

  pub same_left : (xs zs ys : List (List ℕ × V)) → SameValues xs zs → SameValues (xs ++ ys) (zs ++ ys)
  same_left xs zs ys h q =
      value_at-append zs ys q ∙ ap (λ o. option_or o (value_at ys q)) (h q) ∙ sym (value_at-append xs ys q)

  pub same_left_apart : (xs zs ys : List (List ℕ × V)) → AreApart zs → AreApart (xs ++ ys) → SameValues xs zs
      → AreApart (zs ++ ys)
  same_left_apart xs zs ys z a h =
      AreApart-append zs ys z (AreApart-right xs ys a)
      (λ q some. other_of xs ys a q (sym (ap is_some (h q)) ∙ some))

  -- ---- how many entries there are then

  some_kept : (b : Bool) (v : V) (o : Option V) → (b ≡ true → IsSome o) → is_some (cond b (Some v) o) ≡ is_some o
  some_kept true v o h = sym (h refl)
  some_kept false v o h = refl

  -- another value of a key that has one
  pub length-kept : (es fs : List (List ℕ × V)) (k : List ℕ) (v : V) → AreApart es → AreApart fs
      → IsSome (value_at es k) → HasNow k (Some v) es fs → length fs ≡ length es
  length-kept es fs k v a b some h =
      length-keys_same es fs a b
      (λ q. ap is_some (h q) ∙ some_kept (same k q) v (value_at es q)
      (λ t. ap (λ x. is_some (value_at es x)) (sym (tree_key_tie k q t)) ∙ some))

  some_gone : (b : Bool) (v : V) (o : Option V) → (b ≡ true → IsSome o)
      → is_some (cond b (Some v) (cond b None o)) ≡ is_some o
  some_gone true v o h = sym (h refl)
  some_gone false v o h = refl

  none_here : (k : List ℕ) (o : Option V) (b : Bool) → b ≡ true → cond b None o ≡ None
  none_here k o b t = cond-true b None o t

  -- without a key that was there
  pub length-gone : (es fs : List (List ℕ × V)) (k : List ℕ) (v : V) → AreApart es → AreApart fs
      → IsSome (value_at es k) → HasNow k None es fs → length fs + 1 ≡ length es
  length-gone es fs k v a b some h =
      let more : length es ≡ length ((k, v) ∷ fs) =
      length-keys_same ((k, v) ∷ fs) es
      (h k ∙ none_here k (value_at es k) (same k k) (tree_key_itself k), b) a
      (λ q. sym (ap (λ o. is_some (cond (same q k) (Some v) o)) (h q)
      ∙ ap (λ t. is_some (cond t (Some v) (cond (same k q) None (value_at es q)))) (same_turned q k)
      ∙ some_gone (same k q) v (value_at es q)
      (λ t. ap (λ x. is_some (value_at es x)) (sym (tree_key_tie k q t)) ∙ some))) in
      omega arith

  -- ---- what may be refused

  pub right_either : {A E : Type 0} (res : Result A E) (xs ys zs : List (List ℕ × V)) (k : List ℕ) (w : Option V)
      → OnOk res (HasNow k w ys zs) → OnErr res (zs ≡ ys) → AreApart zs → AreApart (xs ++ ys) → value_at xs k ≡ None
      → AreApart (xs ++ zs)
  right_either (Ok x) xs ys zs k w ok err z a none = has_right_apart xs ys zs k w z a ok none
  right_either (Err x) xs ys zs k w ok err z a none = subst (λ es. AreApart (xs ++ es)) (sym err) a

  pub left_either : {A E : Type 0} (res : Result A E) (xs zs ys : List (List ℕ × V)) (k : List ℕ) (w : Option V)
      → OnOk res (HasNow k w xs zs) → OnErr res (zs ≡ xs) → AreApart zs → AreApart (xs ++ ys) → value_at ys k ≡ None
      → AreApart (zs ++ ys)
  left_either (Ok x) xs zs ys k w ok err z a none = has_left_apart xs zs ys k w z a ok none
  left_either (Err x) xs zs ys k w ok err z a none = subst (λ es. AreApart (es ++ ys)) (sym err) a

  -- a key that is gone already
  pub gone_already : (f : List ℕ → Option V) (k : List ℕ) → f k ≡ None
      → (q : List ℕ) → f q ≡ cond (same k q) None (f q)
  gone_already f k none q =
      ⊎_elim (λ t. ap f (sym (tree_key_tie k q t)) ∙ none ∙ sym (cond-true (same k q) None (f q) t))
      (λ f_is. sym (cond-false (same k q) None (f q) f_is))
      (cases_Bool (same k q))

  -- ---- the last bucket of some

  -- another bucket at a position
  pub length-set_bucket : (bs : List (List (List ℕ × V))) (i : ℕ) (b : List (List ℕ × V)) → i < length bs
      → length (joined (set bs i b)) + length (bucket_at bs i) ≡ length (joined bs) + length b
  length-set_bucket [] i b within = absurd (omega arith)
  length-set_bucket (c ∷ cs) zero b within =
      let new : length (b ++ joined cs) ≡ length b + length (joined cs) = length-append b (joined cs) in
      let old : length (c ++ joined cs) ≡ length c + length (joined cs) = length-append c (joined cs) in
      omega arith
  length-set_bucket (c ∷ cs) (suc i) b within =
      let rest = length-set_bucket cs i b (omega arith) in
      let new : length (c ++ joined (set cs i b)) ≡ length c + length (joined (set cs i b)) = length-append c (joined
      (set cs i b)) in
      let old : length (c ++ joined cs) ≡ length c + length (joined cs) = length-append c (joined cs) in
      omega arith

  -- a step: the last bucket has one entry less
  pub step_less : (bs mid after : List (List (List ℕ × V))) (n : ℕ) (b got b0 b1 : List (List ℕ × V)) → n ≡ length bs
      → (n ≡ 0 → ⊥) → b ≡ get_or bs (n - 1) b → got ≡ get_or bs (n - 1) got → (length got ≡ 0 → ⊥)
      → mid ≡ set bs (n - 1) b0 → b1 ≡ take (length b - 1) b → after ≡ set mid (n - 1) b1
      → length after + length (joined after) + 1 ≡ length bs + length (joined bs)
  step_less bs mid after n b got b0 b1 count some read reads filled m cut a =
      let within : n - 1 < length bs = omega (arith, count, some) in
      let is : b ≡ bucket_at bs (n - 1) = get_or_read bs (n - 1) b within read [] in
      let got_is : got ≡ bucket_at bs (n - 1) = get_or_read bs (n - 1) got within reads [] in
      let same_lengths : length got ≡ length b = ap (λ es. length es) (got_is ∙ sym is) in
      let less : length b1 ≡ length b - 1 = ap (λ es. length es) cut ∙ length-take-le (length b - 1) b (omega arith)
      in
      let after_is : after ≡ set bs (n - 1) b1 = put_back bs mid after (n - 1) b0 b1 m a in
      let whole : length (joined after) ≡ length (joined (set bs (n - 1) b1)) = ap (λ xs. length (joined xs))
      after_is in
      let count_after : length after ≡ length bs = ap (λ xs. length xs) after_is ∙ length-set bs (n - 1) b1 in
      let moved : length (joined (set bs (n - 1) b1)) + length (bucket_at bs (n - 1)) ≡ length (joined bs) + length
      b1 =
      length-set_bucket bs (n - 1) b1 within in
      let here : length (bucket_at bs (n - 1)) ≡ length b = ap (λ es. length es) (sym is) in
      omega (arith, filled)

  -- ---- what an index's owner needs

  cond_twice : (b : Bool) (v w o : Option V) → cond b w (cond b v o) ≡ cond b w o
  cond_twice true v w o = refl
  cond_twice false v w o = refl

  -- a value that is put in the place of another, and taken out again, leaves nothing
  pub has_again : (es fs gs : List (List ℕ × V)) (k : List ℕ) (v w : Option V) → HasNow k v es fs → HasNow k w fs gs
      → HasNow k w es gs
  has_again es fs gs k v w h g q =
      g q ∙ ap (cond (same k q) w) (h q) ∙ cond_twice (same k q) v w (value_at es q)

  joined_end : (bs : List (List (List ℕ × V))) (b : List (List ℕ × V)) → joined (bs ++ b ∷ []) ≡ joined bs ++ b
  joined_end [] b = append-nil b
  joined_end (c ∷ cs) b = ap (λ es. c ++ es) (joined_end cs b) ∙ sym (append_assoc c (joined cs) b)

  -- a walk over the buckets has met one more
  pub walked_more : (bs : List (List (List ℕ × V))) (i : ℕ) → i < length bs
      → joined (take (i + 1) bs) ≡ joined (take i bs) ++ bucket_at bs i
  walked_more bs i within = ap joined (take_more bs i [] within) ∙ joined_end (take i bs) (bucket_at bs i)

  -- the map of entries has as many keys as there are entries
  pub map_len : (es : List (List ℕ × V)) → AreApart es → len (from_entries {R = key_cmp} es) ≡ length es
  map_len [] a = len-empty key_cmp V
  map_len (e ∷ es) a =
      len-insert nat_list_cmp_total (from_entries es) e.0 e.1
      ∙ ap (λ (o : Option V). cond (is_some o) (len (from_entries {R = key_cmp} es))
      (len (from_entries {R = key_cmp} es) + 1)) (get_tree_key es e.0 ∙ a.0)
      ∙ (let rest = map_len es a.1 in
      let more : len (from_entries {R = key_cmp} es) + 1 ≡ length (e ∷ es) = omega (arith, rest) in more)
