-- The committed updates by number, with the answered reads after their numbers, are one order of all calls.
use Rattle.std.proofs.Common.{◌≡◌, ◌≢◌, ℕ, zero, suc, ◌+◌, ◌-◌, ◌<◌, ◌≤◌, Bool, true, false, List, [], ◌∷◌, ◌++◌}
use Rattle.std.proofs.Common.{length, take, map, Option, None, Some, refl, sym, ap, ◌∙◌, arith, subst, ◌⊎◌, inl, inr}
use Rattle.std.specs.Prelude.{slice_get, slice_index_or, ◌==◌}
use Rattle.std.proofs.lemmas.Bool.{eq-eqb}
use Rattle.std.proofs.lemmas.Option.{same_Some}
use Rattle.table.specs.Operations.{is_update}
use Rattle.table.specs.Decisions.{decision}
use Rattle.table.specs.Plain.{Items, PlainTable, apply, changed, item_at, item_of, opening as opening_table}
use Rattle.table.specs.Items.{Item}
use Rattle.table.specs.declared.operations.Call.{Call}
use Rattle.table.specs.declared.operations.Op.{Op}
use Rattle.table.specs.declared.operations.Op.TheVariants.{Read as ReadOp, Set, Add, Replace, Append, Prepend, Cas}
use Rattle.table.specs.declared.operations.Op.TheVariants.{Incr, Decr, Delete, Flush}
use Rattle.table.specs.declared.operations.Reply.TheVariants.{Value}
use Rattle.table.specs.declared.operations.Target.TheVariants.{One, All}
use Rattle.versions.specs.Entries.{LogEntry}
use Rattle.versions.specs.Stores.{items_after}
use Rattle.world.specs.Calls.{CallId, begun_call}
use Rattle.world.specs.Orders.{OrderedCall, StandsAt}
use Rattle.node.proofs.Lists.{In}
use Rattle.world.proofs.trace.Traces.{Traced, AnsweredRead, issued_by}
use Rattle.world.proofs.trace.Layers.{entries_of, IsNamed, IsDecided, Lawful}
use Rattle.world.proofs.order.Placing.{Placed, of_update, of_read, placed}
use Rattle.world.proofs.order.Placings.{source}
use Rattle.world.proofs.order.LegalOrder.{Makes, Shows}

-- ---- what stands at a place

-- what stands at a place is read there, whatever the default
pub index_is : {X : Type 0} (xs : List X) (k : ℕ) (d x : X) → slice_get xs k ≡ Some x → slice_index_or xs k d ≡ x
index_is [] k d x h = absurd cc
index_is (y ∷ xs) zero d x h = same_Some y x h
index_is (y ∷ xs) (suc k) d x h = index_is xs k d x h

-- what stands in a list stands, changed, in the changed list
pub get_mapped : {X Y : Type 0} (f : X → Y) (xs : List X) (k : ℕ) (x : X)
    → slice_get xs k ≡ Some x
    → slice_get (map f xs) k ≡ Some (f x)
get_mapped f [] k x h = absurd cc
get_mapped f (y ∷ xs) zero x h = ap (λ z. Some (f z)) (same_Some y x h)
get_mapped f (y ∷ xs) (suc k) x h = get_mapped f xs k x h

-- what stands in a changed list comes of what stands in the list
pub mapped_get : {X Y : Type 0} (f : X → Y) (xs : List X) (k : ℕ) (y : Y)
    → slice_get (map f xs) k ≡ Some y
    → (x : X) × (slice_get xs k ≡ Some x) × (f x ≡ y)
mapped_get f [] k y h = absurd cc
mapped_get f (x ∷ xs) zero y h = (x, refl, same_Some (f x) y h)
mapped_get f (x ∷ xs) (suc k) y h = mapped_get f xs k y h

-- the items after one entry more
pub items_more : (items : Items) (es : List LogEntry) (k : ℕ) (e : LogEntry)
    → slice_get es k ≡ Some e
    → items_after items (take (suc k) es) ≡ changed (items_after items (take k es)) e.target e.change
items_more items [] k e h = absurd cc
items_more items (x ∷ es) zero e h = ap (λ (y : LogEntry). changed items y.target y.change) (same_Some x e h)
items_more items (x ∷ es) (suc k) e h = items_more (changed items x.target x.change) es k e h

-- of two entries of one origin, the later one has more of that origin before it
pub more_of : (es : List LogEntry) (j k : ℕ) (e : LogEntry)
    → j < k
    → slice_get es j ≡ Some e
    → entries_of e.origin (take j es) < entries_of e.origin (take k es)
unfolding entries_of
more_of [] j k e l h = absurd cc
more_of (x ∷ es) zero zero e l h = absurd (omega arith)
more_of (x ∷ es) zero (suc k) e l h =
    rw (eq-eqb x.origin e.origin (ap (λ (y : LogEntry). y.origin) (same_Some x e h))) (omega arith)
more_of (x ∷ es) (suc j) zero e l h = absurd (omega arith)
more_of (x ∷ es) (suc j) (suc k) e l h =
    let m = more_of es j k e (omega arith) h in
    by_origin (x.origin == e.origin) m
  where
    by_origin : (b : Bool) → entries_of e.origin (take j es) < entries_of e.origin (take k es)
        → Rattle.std.proofs.Common.cond b (suc (entries_of e.origin (take j es))) (entries_of e.origin (take j es))
        < Rattle.std.proofs.Common.cond b (suc (entries_of e.origin (take k es))) (entries_of e.origin (take k es))
    by_origin true m = omega arith
    by_origin false m = m

-- ---- the order

no_name : CallId
no_name = record { connection = 0; ordinal = 0 }

no_call : Call
no_call = record { target = All; op = ReadOp }

abbrev call_or : Option Call → Call
call_or None = no_call
call_or (Some call) = call

-- the call that an entry is, and what a call asks
pub name_of : Traced → LogEntry → CallId
name_of t e = slice_index_or (issued_by t e.origin) (e.id - 1) no_name

-- the call of this name, as it was begun
pub asked_of : Traced → CallId → Call
asked_of t x = call_or (begun_call t.world x)

-- the name that is found for an entry is that of its call
pub named_is : (t : Traced) (e : LogEntry) (x : CallId) → IsNamed t e x → name_of t e ≡ x
unfolding name_of
named_is t e x h = index_is (issued_by t e.origin) (e.id - 1) no_name x h.1

-- what is found for a begun call is that call
pub asked_is : (t : Traced) (x : CallId) (call : Call) → begun_call t.world x ≡ Some call → asked_of t x ≡ call
unfolding asked_of
asked_is t x call h = ap call_or h

-- the order with its ranks, and without
abbrev pub ranked : Traced → List Placed
ranked t = placed (name_of t) (asked_of t) t.reads 0 t.committed

-- the order of the calls of a traced world
abbrev pub order_of : Traced → List OrderedCall
order_of t = map (λ (p : Placed). p.entry) (ranked t)

-- ---- the tables along the order

-- the table after the first n committed entries
abbrev pub table_of : Traced → ℕ → PlainTable
table_of t n = record { items = items_after opening_table.items (take n t.committed); count = n }

-- nothing stands in an empty list
pub nothing_there : {X : Type 0} (xs : List X) → xs ≡ [] → (k : ℕ) (x : X) → slice_get xs k ≡ Some x → ⊥
nothing_there [] none k x h = absurd cc
nothing_there (y ∷ xs) none k x h = absurd cc

-- every committed entry is decided by its call
pub decided_committed : (t : Traced)
    → Lawful t
    → (k : ℕ) (e : LogEntry)
    → slice_get t.committed k ≡ Some e
    → IsDecided t t.committed k e
decided_committed t l k e h = elim l.logged.source [
  | inl none ↦ absurd (nothing_there t.committed none k e h)
  | inr one ↦ subst (λ es. IsDecided t es k e) (sym one.2) (l.calling.decided one.0 k e (rw (one.2) at h))
]

-- an update's call makes the next table
makes : (items : Items) (k : ℕ) (e : LogEntry) (call : Call) (next : Items)
    → e.target ≡ call.target
    → is_update call.op ≡ true
    → decision (item_of items e.target) call.op (k + 1) ≡ (e.reply, e.change) → next ≡ changed items e.target e.change
    → apply (record { items = items; count = k }) call.target call.op
    ≡ (e.reply, record { items = next; count = suc k })
makes items k e call next target update decided is =
    rw (← target, decided, update, is)
    (ap (λ n. (e.reply, record { items = changed items e.target e.change; count = n }))
    (let m : k + 1 ≡ suc k = omega arith in m))

-- each committed update makes of the table of the entries before it the next one
pub all_make : (t : Traced)
    → Lawful t
    → (k : ℕ) (e : LogEntry)
    → slice_get t.committed k ≡ Some e
    → Makes (name_of t) (asked_of t) (table_of t) k e
all_make t l k e h =
    let d = decided_committed t l k e h in
    let name : name_of t e ≡ d.issued.name = named_is t e d.issued.name (d.issued.low, d.issued.issued) in
    let call : asked_of t (name_of t e) ≡ d.call =
    ap (asked_of t) name ∙ asked_is t d.issued.name d.call d.issued.begun in
    rw call (makes _ k e d.call _ d.target d.issued.update d.decided (items_more _ t.committed k e h))

-- a read's call leaves the table
is_read : (op : Op) → is_update op ≡ false → op ≡ ReadOp
is_read ReadOp h = refl
is_read (Set flags bytes) h = absurd cc
is_read (Add flags bytes) h = absurd cc
is_read (Replace flags bytes) h = absurd cc
is_read (Append bytes) h = absurd cc
is_read (Prepend bytes) h = absurd cc
is_read (Cas flags bytes unique) h = absurd cc
is_read (Incr amount) h = absurd cc
is_read (Decr amount) h = absurd cc
is_read Delete h = absurd cc
is_read Flush h = absurd cc

shows : (table : PlainTable) (call : Call) (key : List ℕ) (item : Option Item)
    → is_update call.op ≡ false
    → call.target ≡ One key
    → item ≡ item_at table.items key
    → apply table call.target call.op ≡ (Value item, table)
shows table call key item read target is = rw (is_read call.op read, target, is) refl

-- each answered read shows what is in the table of its number
pub all_show : (t : Traced)
    → Lawful t
    → (j : ℕ) (r : AnsweredRead)
    → slice_get t.reads j ≡ Some r
    → Shows (name_of t) (asked_of t) (table_of t) r
all_show t l j r h =
    let f = l.read.reads j r h in
    rw (asked_is t r.id f.call f.begun) (shows (table_of t r.number) f.call r.key r.item f.read f.target f.item)

-- ---- what stands in the order

-- p is the k-th committed entry, in its place of the order
abbrev pub IsUpdateAt : Traced → ℕ → LogEntry → Placed → Type 0
IsUpdateAt t k e p = (slice_get t.committed k ≡ Some e) × (p ≡ of_update (name_of t) (asked_of t) k e)

-- p is the j-th answered read, in its place of the order
abbrev pub IsReadAt : Traced → ℕ → AnsweredRead → Placed → Type 0
IsReadAt t j r p = (slice_get t.reads j ≡ Some r) × (p ≡ of_read (name_of t) (asked_of t) j r)

-- what stands in the order is one of the committed entries, or of the answered reads
abbrev pub Sources : Traced → Placed → Type 0
Sources t p = ((k : ℕ) × (e : LogEntry) × IsUpdateAt t k e p) ⊎ ((j : ℕ) × (r : AnsweredRead) × IsReadAt t j r p)

-- 0 plus n is n
pub front : (n : ℕ) → 0 + n ≡ n
front n = omega arith

-- what stands in the order is a committed entry or an answered read
pub comes_from : (t : Traced) (p : Placed) → In p (ranked t) → Sources t p
comes_from t p h = elim (source (name_of t) (asked_of t) t.reads 0 t.committed p h) [
  | inl u ↦ inl (u.0, u.1, (u.2, u.3 ∙ ap (λ x. of_update (name_of t) (asked_of t) x u.1) (front u.0)))
  | inr r ↦ inr (r.0, r.1, (r.2, r.4))
]

-- where a call stands, with its rank
pub record Stands (t : Traced) (i : ℕ) (x : CallId) : Type 0 where
  pub rank : Placed
  pub here : slice_get (ranked t) i ≡ Some rank
  pub same : rank.entry.id ≡ x

-- each call that stands in the order stands there with a rank
pub stands : (t : Traced) (i : ℕ) (x : CallId) → StandsAt (order_of t) i x → Stands t i x
stands t i x s =
    let p = mapped_get (λ (p : Placed). p.entry) (ranked t) i s.entry s.here in
    record { rank = p.0; here = p.1; same = ap (λ (e : OrderedCall). e.id) p.2 ∙ s.same }
