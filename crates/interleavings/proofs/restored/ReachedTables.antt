-- A reached table has items with uniques of their own, which fit.
use Rattle.std.proofs.Common.{◌≡◌, ◌⊎◌, ℕ, ◌+◌, ◌^◌, ◌<◌, ◌≤◌, Bool, true, false, cond, List, [], ◌∷◌, length, Option}
use Rattle.std.proofs.Common.{None, Some, refl, arith, ap, sym, ◌∙◌, subst, inl, inr}
use Rattle.std.specs.Prelude.{◌==◌, ◌++◌, nat_le}
use Rattle.std.specs.FinMap.{get-insert, get-remove, get-empty}
use Rattle.std.specs.Ordering.{eq_by_cmp}
use Rattle.std.specs.Cmp.Lexicographic.{nat_list_cmp_total}
use Rattle.std.proofs.lemmas.Option.{same_Some}
use Rattle.std.proofs.lemmas.Map.Lookups.{exact_bytes}
use Rattle.std.proofs.lemmas.Map.Views.{tells_apart}
use Rattle.table.specs.Items.{Item, limit}
use Rattle.table.specs.Keys.{key_cmp, IsKey}
use Rattle.table.specs.Numbers.{counter_of}
use Rattle.table.specs.Operations.{is_update}
use Rattle.table.specs.Decisions.{Decision, put, grown, raised, lowered, decision}
use Rattle.table.specs.Plain.{Items, PlainTable, opening as empty_table, item_at, item_of, changed, apply}
use Rattle.table.specs.declared.operations.Call.{Call}
use Rattle.table.specs.declared.operations.Change.{Change}
use Rattle.table.specs.declared.operations.Change.TheVariants.{Keep, Put, Drop, Clear}
use Rattle.table.specs.declared.operations.Op.{Op}
use Rattle.table.specs.declared.operations.Op.TheVariants.{Read, Set, Add, Replace, Append, Prepend, Cas, Incr, Decr}
use Rattle.table.specs.declared.operations.Op.TheVariants.{Delete, Flush}
use Rattle.table.specs.declared.operations.Reply.TheVariants.{Stored, Exists, TooLarge}
use Rattle.table.specs.declared.operations.Target.{Target}
use Rattle.table.specs.declared.operations.Target.TheVariants.{One, All}
use Rattle.versions.specs.Entries.{PutsOwn}
use Rattle.node.proofs.DecisionLaws.{decided}
use Rattle.interleavings.specs.Asked.{IsAsked, IsTarget, AreNumbers}
use Rattle.interleavings.specs.Restored.{table_after, AreAskedUpdates, IsReached, HasOwnUniques, FitsAll}

-- ---- what an update puts

-- an item that is put has low flags
abbrev HasLowFlags : Change → Type 0
HasLowFlags Keep = Unit {0}
HasLowFlags (Put item) = item.flags < 2 ^ 32
HasLowFlags Drop = Unit {0}
HasLowFlags Clear = Unit {0}

counter_flags : (flags number : ℕ) (old : Option ℕ) (amount : ℕ)
    → flags < 2 ^ 32
    → HasLowFlags (raised flags old amount number).1 × HasLowFlags (lowered flags old amount number).1
counter_flags flags number None amount low = (tt, tt)
counter_flags flags number (Some old) amount low = (low, low)

grown_flags : (flags number : ℕ) (bytes : List ℕ) → flags < 2 ^ 32 → HasLowFlags (grown flags bytes number).1
grown_flags flags number bytes low = by (nat_le (length bytes) limit)
  where
    by : (b : Bool) → HasLowFlags (let d : Decision = cond b (Stored, put flags bytes number) (TooLarge, Keep) in d.1)
    by true = low
    by false = tt

low_flags : (o : Option Item) (op : Op) (number : ℕ)
    → AreNumbers op
    → ((item : Item) → o ≡ Some item → item.flags < 2 ^ 32)
    → HasLowFlags (decision o op number).1
low_flags o Read number n h = tt
low_flags o (Set flags bytes) number n h = n
low_flags None (Add flags bytes) number n h = n
low_flags (Some old) (Add flags bytes) number n h = tt
low_flags None (Replace flags bytes) number n h = tt
low_flags (Some old) (Replace flags bytes) number n h = n
low_flags None (Append bytes) number n h = tt
low_flags (Some old) (Append bytes) number n h = grown_flags old.flags number (old.bytes ++ bytes) (h old refl)
low_flags None (Prepend bytes) number n h = tt
low_flags (Some old) (Prepend bytes) number n h = grown_flags old.flags number (bytes ++ old.bytes) (h old refl)
low_flags None (Cas flags bytes unique) number n h = tt
low_flags (Some old) (Cas flags bytes unique) number n h = by (old.unique == unique)
  where
    by : (b : Bool) → HasLowFlags (let d : Decision = cond b (Stored, put flags bytes number) (Exists, Keep) in d.1)
    by true = n.0
    by false = tt
low_flags None (Incr amount) number n h = tt
low_flags (Some old) (Incr amount) number n h =
    (counter_flags old.flags number (counter_of old.bytes) amount (h old refl)).0
low_flags None (Decr amount) number n h = tt
low_flags (Some old) (Decr amount) number n h =
    (counter_flags old.flags number (counter_of old.bytes) amount (h old refl)).1
low_flags None Delete number n h = tt
low_flags (Some old) Delete number n h = tt
low_flags o Flush number n h = tt

-- ---- tables

-- items with uniques of their own, which fit
pub record IsWell (t : PlainTable) : Type 0 where
  pub own : HasOwnUniques t
  pub fit : FitsAll t

well_empty : IsWell empty_table
well_empty = record {
  own = record {
    taken = λ key item e. absurd (none key item e);
    own = λ key other item found e f u. absurd (none key item e);
  };
  fit = record {
    keys = λ key item e. absurd (none key item e);
    flags = λ key item e. absurd (none key item e);
    bytes = λ key item e. absurd (none key item e);
  };
}
  where
    none : (key : List ℕ) (item : Item) → item_at empty_table.items key ≡ Some item → ⊥
    none key item e = (let no : None ≡ Some item = sym (get-empty key_cmp key) ∙ e in absurd cc)

module _ (t : PlainTable) (w : IsWell t) (new : Items) where
  abbrev more : PlainTable
  more = record { items = new; count = t.count + 1 }

  -- the items are some of those before
  well_fewer : ((q : List ℕ) (i : Item) → item_at new q ≡ Some i → item_at t.items q ≡ Some i) → IsWell more
  well_fewer old = record {
    own = record {
      taken = λ q i e. (let r = w.own.taken q i (old q i e) in (r.0, omega (arith, r.1)));
      own = λ q p i j e f u. w.own.own q p i j (old q i e) (old p j f) u;
    };
    fit = record {
      keys = λ q i e. w.fit.keys q i (old q i e);
      flags = λ q i e. w.fit.flags q i (old q i e);
      bytes = λ q i e. w.fit.bytes q i (old q i e);
    };
  }

  -- or one is put under the next number
  well_put : (key : List ℕ) (item : Item)
      → IsKey key
      → item.unique ≡ t.count + 1
      → item.flags < 2 ^ 32
      → length item.bytes ≤ limit
      → ((q : List ℕ) (i : Item)
      → item_at new q ≡ Some i
      → (item_at t.items q ≡ Some i) ⊎ ((q ≡ key) × (i ≡ item)))
      → IsWell more
  well_put key item k unique flags bytes old = record {
    own = record {
      taken = λ q i e. elim (old q i e) [
        | inl there ↦ (let r = w.own.taken q i there in (r.0, omega (arith, r.1)))
        | inr new ↦ rw new.1 (omega (arith, unique), omega (arith, unique))
      ];
      own = λ q p i j e f u. elim (old q i e) [
        | inl there ↦ elim (old p j f) [
          | inl here ↦ w.own.own q p i j there here u
          | inr new ↦ absurd (newer i j q u there new.1)
        ]
        | inr new ↦ elim (old p j f) [
          | inl here ↦ absurd (newer j i p (sym u) here new.1)
          | inr too ↦ new.0 ∙ sym too.0
        ]
      ];
    };
    fit = record {
      keys = λ q i e. elim (old q i e) [ inl there ↦ w.fit.keys q i there | inr new ↦ rw new.0 k ];
      flags = λ q i e. elim (old q i e) [ inl there ↦ w.fit.flags q i there | inr new ↦ rw new.1 flags ];
      bytes = λ q i e. elim (old q i e) [ inl there ↦ w.fit.bytes q i there | inr new ↦ rw new.1 bytes ];
    };
  }
    where
      newer : (i j : Item) (q : List ℕ) → i.unique ≡ j.unique → item_at t.items q ≡ Some i → j ≡ item → ⊥
      newer i j q u there same =
          let low = (w.own.taken q i there).1 in
          let high = ap (λ (x : Item). x.unique) same in
          omega (arith, u, low, high, unique)

put_or_old : (items : Items) (key : List ℕ) (item : Item) (q : List ℕ) (i : Item) (b : Bool)
    → eq_by_cmp key_cmp q key ≡ b
    → cond b (Some item) (item_at items q) ≡ Some i
    → (item_at items q ≡ Some i) ⊎ ((q ≡ key) × (i ≡ item))
put_or_old items key item q i true is e = inr (tells_apart exact_bytes q key is, sym (same_Some item i e))
put_or_old items key item q i false is e = inl e

not_dropped : (items : Items) (q : List ℕ) (i : Item) (b : Bool)
    → cond b None (item_at items q) ≡ Some i
    → item_at items q ≡ Some i
not_dropped items q i true e = (let no : None ≡ Some i = e in absurd cc)
not_dropped items q i false e = e

never_in : (t : PlainTable) (q : List ℕ) (i : Item) → item_at empty_table.items q ≡ Some i → item_at t.items q ≡ Some i
never_in t q i e = (let no : None ≡ Some i = sym (get-empty key_cmp q) ∙ e in absurd cc)

-- after a change
well_changed : (t : PlainTable) (target : Target) (change : Change)
    → IsWell t
    → IsTarget target
    → PutsOwn (t.count + 1) change
    → HasLowFlags change
    → IsWell (record { items = changed t.items target change; count = t.count + 1 })
well_changed t (One key) Keep w k p f = well_fewer t w t.items (λ q i e. e)
well_changed t (One key) (Put item) w k p f =
    well_put t w (changed t.items (One key) (Put item)) key item k p.0 f p.1 (λ q i e.
    put_or_old t.items key item q i (eq_by_cmp key_cmp q key) refl
    (sym (get-insert nat_list_cmp_total t.items key item q) ∙ e))
well_changed t (One key) Drop w k p f =
    well_fewer t w (changed t.items (One key) Drop) (λ q i e.
    not_dropped t.items q i (eq_by_cmp key_cmp q key) (sym (get-remove nat_list_cmp_total t.items key q) ∙ e))
well_changed t (One key) Clear w k p f = well_fewer t w empty_table.items (never_in t)
well_changed t All Keep w k p f = well_fewer t w t.items (λ q i e. e)
well_changed t All (Put item) w k p f = well_fewer t w t.items (λ q i e. e)
well_changed t All Drop w k p f = well_fewer t w t.items (λ q i e. e)
well_changed t All Clear w k p f = well_fewer t w empty_table.items (never_in t)

item_there : (t : PlainTable) (target : Target) (item : Item)
    → item_of t.items target ≡ Some item
    → (key : List ℕ) × (item_at t.items key ≡ Some item)
item_there t (One key) item e = (key, e)
item_there t All item e = (let no : None ≡ Some item = e in absurd cc)

-- after an update
well_applied : (t : PlainTable) (u : Call)
    → IsWell t
    → IsAsked u
    → is_update u.op ≡ true
    → IsWell (apply t u.target u.op).1
well_applied t u w asked is =
    let change = (decision (item_of t.items u.target) u.op (t.count + 1)).1 in
    subst IsWell
    (sym (ap (λ b. record { items = changed t.items u.target change; count = cond b (t.count + 1) t.count }) is))
    (well_changed t u.target change w asked.target
    (decided (item_of t.items u.target) u.op (t.count + 1) asked.fits is).put
    (low_flags (item_of t.items u.target) u.op (t.count + 1) asked.numbers
    (λ item e. (let k = item_there t u.target item e in w.fit.flags k.0 item k.1))))

well_after : (us : List Call) (t : PlainTable) → IsWell t → AreAskedUpdates us → IsWell (table_after t us)
well_after [] t w h = w
well_after (u ∷ us) t w h = well_after us (apply t u.target u.op).1 (well_applied t u w h.0 h.1) h.2

-- a reached table is so
pub reached_well : (t : PlainTable) → IsReached t → IsWell t
reached_well t r = subst IsWell r.leave (well_after r.updates empty_table well_empty r.asked)
