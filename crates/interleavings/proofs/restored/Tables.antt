-- A table is reached if its items have uniques of their own, and fit: a set under each unique, and an update that
-- changes nothing under each other number, leave it.
use Rattle.std.proofs.Common.{◌≡◌, ◌≢◌, ◌⊎◌, ℕ, zero, suc, ◌+◌, ◌<◌, ◌≤◌, Bool, true, false, cond, List, [], ◌∷◌, ◌++◌}
use Rattle.std.proofs.Common.{Option, None, Some, refl, arith, ap, sym, ◌∙◌, subst, inl, inr, add-one, lit<, lit≤}
use Rattle.std.specs.Prelude.{nat_le, codes}
use Rattle.std.specs.FinMap.{find, retain_keys, entries, get-insert, get-retain_keys, get-entries, get-empty, same_map}
use Rattle.std.specs.Ordering.{eq_by_cmp}
use Rattle.std.specs.Cmp.{eq_by_cmp_equiv}
use Rattle.std.specs.Cmp.Lexicographic.{nat_list_cmp_total}
use Rattle.std.proofs.lemmas.Bool.{cases_eq, cases_lt, le-leb, ne_eqb}
use Rattle.std.proofs.lemmas.Option.{same_Some}
use Rattle.std.proofs.lemmas.Map.Lookups.{exact_bytes}
use Rattle.std.proofs.lemmas.Map.Views.{tells_apart}
use borrow.Author.Tests.{leb-true}
use Rattle.table.specs.Items.{Item}
use Rattle.table.specs.Keys.{key_cmp}
use Rattle.table.specs.Operations.{is_update}
use Rattle.table.specs.Decisions.{Decision, put, decision}
use Rattle.table.specs.Plain.{PlainTable, opening as empty_table, item_at, changed, apply}
use Rattle.table.specs.declared.operations.Call.{Call}
use Rattle.table.specs.declared.operations.Change.{Change}
use Rattle.table.specs.declared.operations.Change.TheVariants.{Keep}
use Rattle.table.specs.declared.operations.Reply.TheVariants.{Stored, Exists}
use Rattle.table.specs.declared.operations.Op.TheVariants.{Set, Cas}
use Rattle.table.specs.declared.operations.Target.TheVariants.{One}
use Rattle.interleavings.specs.Asked.{IsAsked}
use Rattle.interleavings.specs.Restored.{table_after, AreAskedUpdates, IsReached, HasOwnUniques, FitsAll}

-- ---- one update more

after-append : (t : PlainTable) (us vs : List Call) → table_after t (us ++ vs) ≡ table_after (table_after t us) vs
after-append t [] vs = refl
after-append t (u ∷ us) vs = after-append (apply t u.target u.op).1 us vs

asked-push : (us : List Call) (u : Call)
    → AreAskedUpdates us
    → IsAsked u
    → is_update u.op ≡ true
    → AreAskedUpdates (us ++ u ∷ [])
asked-push [] u h asked is = (asked, is, tt)
asked-push (v ∷ us) u h asked is = (h.0, h.1, asked-push us u h.2 asked is)

pub one_more : (t u : PlainTable) (call : Call)
    → IsReached t
    → IsAsked call
    → is_update call.op ≡ true
    → (apply t call.target call.op).1 ≡ u
    → IsReached u
one_more t u call r asked is e = record {
  updates = r.updates ++ call ∷ [];
  asked = asked-push r.updates call r.asked asked is;
  leave = after-append empty_table r.updates (call ∷ [])
      ∙ ap (λ (s : PlainTable). (apply s call.target call.op).1) r.leave
      ∙ e;
}

-- ---- the items up to a number

is_within : ℕ → Option Item → Bool
is_within k None = false
is_within k (Some item) = nat_le item.unique k

up_to : ℕ → Option Item → Option Item
unfolding is_within
up_to k o = cond (is_within k o) o None

none_up_to : (k : ℕ) → up_to k None ≡ None
unfolding is_within up_to
none_up_to k = refl

low_up_to : (k : ℕ) (item : Item) → item.unique ≤ k → up_to k (Some item) ≡ Some item
unfolding is_within up_to
low_up_to k item l = ap (λ b. cond b (Some item) None) (le-leb item.unique k l)

high_up_to : (k : ℕ) (item : Item) → k < item.unique → up_to k (Some item) ≡ None
unfolding is_within up_to
high_up_to k item l = by (nat_le item.unique k) refl
  where
    by : (b : Bool) → nat_le item.unique k ≡ b → cond b (Some item) None ≡ None
    by true e = absurd (let low : item.unique ≤ k = leb-true item.unique k e in omega (arith, low, l))
    by false e = refl

kept : PlainTable → ℕ → PlainTable
kept t k = record { items = retain_keys t.items (λ key. is_within k (item_at t.items key)); count = k }

kept_count : (t : PlainTable) (k : ℕ) → (kept t k).count ≡ k
unfolding kept
kept_count t k = refl

item_kept : (t : PlainTable) (k : ℕ) (q : List ℕ) → item_at (kept t k).items q ≡ up_to k (item_at t.items q)
unfolding kept up_to
item_kept t k q = get-retain_keys t.items (λ key. is_within k (item_at t.items key)) q
    (λ x e. ap (λ key. is_within k (item_at t.items key)) (sym (exact_bytes q x e)))

-- tables with the same items and the same count are the same
same_table : (t u : PlainTable) → ((q : List ℕ) → item_at t.items q ≡ item_at u.items q) → t.count ≡ u.count → t ≡ u
same_table t u items count =
    let same = same_map nat_list_cmp_total exact_bytes t.items u.items items in
    λ i. record { items = same i; count = count i }

-- ---- who has a number as its unique

-- some key's item does
record Found (t : PlainTable) (n : ℕ) : Type 0 where
  key : List ℕ
  item : Item
  there : item_at t.items key ≡ Some item
  unique : item.unique ≡ n

-- none does
NoneHas : PlainTable → ℕ → Type 0
NoneHas t n = (q : List ℕ) (item : Item) → item_at t.items q ≡ Some item → item.unique ≡ n → ⊥

module _ (t : PlainTable) (n : ℕ) where
  NoneOf : List (List ℕ × Item) → Type 0
  NoneOf es = (q : List ℕ) (item : Item)
      → find key_cmp q es ≡ Some item
      → item_at t.items q ≡ Some item
      → item.unique ≡ n
      → ⊥

  one_entry : (e : List ℕ × Item) (es : List (List ℕ × Item)) (o : Option Item)
      → item_at t.items e.0 ≡ o
      → NoneOf es
      → Found t n ⊎ NoneOf (e ∷ es)
  unfolding NoneOf
  one_entry e es None at none = inr (λ q item f there u. by q item (eq_by_cmp key_cmp q e.0) refl f there u)
    where
      by : (q : List ℕ) (item : Item) (b : Bool)
          → eq_by_cmp key_cmp q e.0 ≡ b
          → cond b (Some e.1) (find key_cmp q es) ≡ Some item
          → item_at t.items q ≡ Some item
          → item.unique ≡ n
          → ⊥
      by q item true is f there u =
          (let same : None ≡ Some item = sym at ∙ ap (item_at t.items) (sym (tells_apart exact_bytes q e.0 is)) ∙ there
          in
          absurd cc)
      by q item false is f there u = none q item f there u
  one_entry e es (Some found) at none = elim (cases_eq found.unique n) [
    | inl same ↦ inl (record { key = e.0; item = found; there = at; unique = same })
    | inr other ↦ inr (λ q item f there u. by q item (eq_by_cmp key_cmp q e.0) refl f there u other)
  ]
    where
      by : (q : List ℕ) (item : Item) (b : Bool)
          → eq_by_cmp key_cmp q e.0 ≡ b
          → cond b (Some e.1) (find key_cmp q es) ≡ Some item
          → item_at t.items q ≡ Some item
          → item.unique ≡ n
          → found.unique ≢ n
          → ⊥
      by q item true is f there u other =
          other (ap (λ (i : Item). i.unique) (same_Some found item
          (sym at ∙ ap (item_at t.items) (sym (tells_apart exact_bytes q e.0 is)) ∙ there)) ∙ u)
      by q item false is f there u other = none q item f there u

  among : (es : List (List ℕ × Item)) → Found t n ⊎ NoneOf es
  unfolding NoneOf
  among [] = inr (λ q item f there u. absurd cc)
  among (e ∷ es) = elim (among es) [
    | inl found ↦ inl found
    | inr none ↦ one_entry e es (item_at t.items e.0) refl none
  ]

  -- some key's item has it, or none
  who_has : Found t n ⊎ NoneHas t n
  unfolding NoneOf NoneHas
  who_has = elim (among (entries t.items)) [
    | inl found ↦ inl found
    | inr none ↦ inr (λ q item there u. none q item (sym (get-entries t.items q) ∙ there) there u)
  ]

-- ---- each number

module _ (t : PlainTable) (own : HasOwnUniques t) (fit : FitsAll t) where
  -- no item is left up to 0
  first_kept : kept t 0 ≡ empty_table
  first_kept = same_table (kept t 0) empty_table
      (λ q. item_kept t 0 q ∙ none (item_at t.items q) q refl ∙ sym (get-empty key_cmp q))
      (kept_count t 0)
    where
      none : (o : Option Item) (q : List ℕ) → item_at t.items q ≡ o → up_to 0 o ≡ None
      none None q e = none_up_to 0
      none (Some item) q e = high_up_to 0 item (omega (arith, (own.taken q item e).0))

  -- and all are up to the count
  last_kept : kept t t.count ≡ t
  last_kept = same_table (kept t t.count) t (λ q. item_kept t t.count q ∙ all (item_at t.items q) q refl)
      (kept_count t t.count)
    where
      all : (o : Option Item) (q : List ℕ) → item_at t.items q ≡ o → up_to t.count o ≡ o
      all None q e = none_up_to t.count
      all (Some item) q e = low_up_to t.count item (own.taken q item e).1

  -- a key whose item has another number as its unique
  other_kept : (k : ℕ) (o : Option Item)
      → ((item : Item) → o ≡ Some item → item.unique ≢ suc k)
      → up_to k o ≡ up_to (suc k) o
  other_kept k None h = none_up_to k ∙ sym (none_up_to (suc k))
  other_kept k (Some item) h = elim (cases_lt k item.unique) [
    | inl high ↦ (let n = h item refl in
        high_up_to k item high ∙ sym (high_up_to (suc k) item (omega (arith, high, n))))
    | inr low ↦ low_up_to k item low ∙ sym (low_up_to (suc k) item (omega (arith, low)))
  ]

  -- the number is an item's unique: it is set under it
  abbrev set_of : Item → List ℕ → Call
  set_of item key = record { target = One key; op = Set item.flags item.bytes }

  is_set : (k : ℕ) (f : Found t (suc k)) → IsReached (kept t k) → IsReached (kept t (suc k))
  unfolding kept
  is_set k f r = one_more (kept t k) (kept t (suc k)) (set_of f.item f.key) r
      (record {
        fits = fit.bytes f.key f.item f.there;
        suits = refl;
        target = fit.keys f.key f.item f.there;
        numbers = fit.flags f.key f.item f.there;
      }) refl
      (same_table (apply (kept t k) (One f.key) (Set f.item.flags f.item.bytes)).1 (kept t (suc k))
      (λ q. get-insert nat_list_cmp_total (kept t k).items f.key
      (record { flags = f.item.flags; bytes = f.item.bytes; unique = k + 1 }) q
      ∙ ap (λ n. cond (eq_by_cmp key_cmp q f.key)
      (Some (record { flags = f.item.flags; bytes = f.item.bytes; unique = n })) (item_at (kept t k).items q))
      (add-one k ∙ sym f.unique)
      ∙ ap (cond (eq_by_cmp key_cmp q f.key) (Some f.item)) (item_kept t k q)
      ∙ by q (eq_by_cmp key_cmp q f.key) refl
      ∙ sym (item_kept t (suc k) q))
      (add-one k))
    where
      by : (q : List ℕ) (b : Bool)
          → eq_by_cmp key_cmp q f.key ≡ b
          → cond b (Some f.item) (up_to k (item_at t.items q)) ≡ up_to (suc k) (item_at t.items q)
      by q true e =
          sym (ap (up_to (suc k)) (ap (item_at t.items) (tells_apart exact_bytes q f.key e) ∙ f.there)
          ∙ low_up_to (suc k) f.item (omega (arith, f.unique)))
      by q false e = other_kept k (item_at t.items q) (λ item there u. apart q item there u e)
        where
          apart : (q : List ℕ) (item : Item)
              → item_at t.items q ≡ Some item
              → item.unique ≡ suc k
              → eq_by_cmp key_cmp q f.key ≡ false
              → ⊥
          apart q item there u e =
              (let same : q ≡ f.key = own.own q f.key item f.item there f.there (u ∙ sym f.unique) in
              let yes : eq_by_cmp key_cmp q f.key ≡ true =
              ap (eq_by_cmp key_cmp q) (sym same) ∙ (eq_by_cmp_equiv nat_list_cmp_total).refl q in
              absurd cc)

  -- the number is no item's unique: an update that asks for a unique that no item has takes it
  abbrev no_change : Call
  no_change = record { target = One (codes "a"); op = Cas 0 [] 0 }

  abbrev cas_change : Bool → ℕ → Change
  cas_change b n = (let d : Decision = cond b (Stored, put 0 [] n) (Exists, Keep) in d.1)

  keeps : (o : Option Item) (n : ℕ)
      → ((item : Item) → o ≡ Some item → 1 ≤ item.unique)
      → (decision o (Cas 0 [] 0) n).1 ≡ Keep
  keeps None n h = refl
  keeps (Some item) n h =
      let some = h item refl in
      ap (λ b. cas_change b n) (ne_eqb item.unique 0 (λ e. omega (arith, e, some)))

  above_none : (k : ℕ) (item : Item) → item_at (kept t k).items (codes "a") ≡ Some item → 1 ≤ item.unique
  above_none k item e = by (item_at t.items (codes "a")) refl (sym (item_kept t k (codes "a")) ∙ e)
    where
      by : (o : Option Item) → item_at t.items (codes "a") ≡ o → up_to k o ≡ Some item → 1 ≤ item.unique
      by None at f = (let no : None ≡ Some item = sym (none_up_to k) ∙ f in absurd cc)
      by (Some found) at f = elim (cases_lt k found.unique) [
        | inl high ↦ (let no : None ≡ Some item = sym (high_up_to k found high) ∙ f in absurd cc)
        | inr low ↦ (let same : found ≡ item = same_Some found item (sym (low_up_to k found low) ∙ f) in
            subst (λ (i : Item). 1 ≤ i.unique) same (own.taken (codes "a") found at).0)
      ]

  is_skipped : (k : ℕ) → NoneHas t (suc k) → IsReached (kept t k) → IsReached (kept t (suc k))
  unfolding NoneHas kept
  is_skipped k none r = one_more (kept t k) (kept t (suc k)) no_change r
      (record { fits = lit≤ tt; suits = refl; target = refl; numbers = (lit< tt, lit< tt) }) refl
      (ap (λ c. record { items = changed (kept t k).items (One (codes "a")) c; count = k + 1 })
      (keeps (item_at (kept t k).items (codes "a")) (k + 1) (above_none k))
      ∙ same_table (record { items = (kept t k).items; count = k + 1 }) (kept t (suc k))
      (λ q. item_kept t k q ∙ other_kept k (item_at t.items q) (λ item there u. none q item there u)
      ∙ sym (item_kept t (suc k) q))
      (add-one k))

  kept_reached : (k : ℕ) → IsReached (kept t k)
  kept_reached zero = record { updates = []; asked = tt; leave = sym first_kept }
  kept_reached (suc k) = elim (who_has t (suc k)) [
    | inl f ↦ is_set k f (kept_reached k)
    | inr none ↦ is_skipped k none (kept_reached k)
  ]

  -- the table is reached
  pub is_reached : IsReached t
  is_reached = subst IsReached last_kept (kept_reached t.count)
