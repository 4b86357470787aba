-- The face of a server, key by key: what it shows of a key is what the server itself shows.
use Rattle.std.proofs.Common.{◌≡◌, ℕ, zero, suc, ◌+◌, ◌-◌, ◌<◌, ◌≤◌, nat_le, Bool, true, false, not, cond, ◌&&◌, ◌||◌}
use Rattle.std.proofs.Common.{List, [], ◌∷◌, length, drop, map, Option, None, Some, refl, sym, ap, subst, ◌∙◌, arith}
use Rattle.std.specs.List.{list_any, cons_option}
use Rattle.std.specs.FinMap as maps
use Rattle.std.specs.FinMap.{find, get-insert, get-remove, get-empty, get-entries, get-from_entries, get-retain_keys}
use Rattle.std.specs.FinMap.{get_tied}
use Rattle.std.specs.Ordering.{eq_by_cmp}
use Rattle.std.specs.Cmp.{eq_by_cmp_equiv}
use Rattle.std.specs.Cmp.Lexicographic.{nat_list_cmp_total}
use Rattle.std.specs.Option.{option_map}
use Rattle.std.proofs.lemmas.Bool.{le-leb, lt-leb, leb-true, and_right}
use Rattle.std.proofs.lemmas.List.{take_all}
use Rattle.table.specs.Keys.{key_cmp}
use Rattle.table.specs.Plain.{Items, item_at, changed}
use Rattle.table.specs.Items.{Item, Version}
use Rattle.table.specs.declared.operations.Target.{Target}
use Rattle.table.specs.declared.operations.Target.TheVariants.{One, All}
use Rattle.table.specs.declared.operations.Change.{Change}
use Rattle.table.specs.declared.operations.Change.TheVariants.{Keep, Put, Drop, Clear}
use Rattle.versions.specs.Entries.{LogEntry, is_clear, item_put}
use Rattle.versions.specs.Stores.{IsLog, last_number, value_at, touches, sets, items_after}
use Rattle.node.specs.declared.faces.FaceStep.{FaceStep}
use Rattle.node.specs.declared.looks.Look.{Look}
use Rattle.node.specs.declared.looks.Look.TheVariants.{Clean, Dirty}
use Rattle.node.specs.Servers.{ServerState}
use Rattle.node.specs.Lawful.{IsSound}
use Rattle.node.specs.Faces.{FaceState, look_at, look_at_version, face_after, face_after_all, is_removed, face_at}
use Rattle.node.specs.Faces.{face_step, face_steps, versions_of, face_of, peeked}

-- ---- what a face has of one key

-- the number of the last clear, and the key's version
abbrev pub Slot : Type 0
Slot = ℕ × Option Version

-- what a face has of a key
abbrev pub slot : FaceState → List ℕ → Slot
slot f q = (f.cleared, maps.get f.versions q)

-- the number and the item of the newest version, a clear counting as one
abbrev pub number_in : ℕ → Option Version → ℕ
number_in cleared None = cleared
number_in cleared (Some v) = v.number

-- the item of a version, none if there is none
abbrev pub item_in : Option Version → Option Item
item_in None = None
item_in (Some v) = v.item

-- what an entry makes of it, by whether it clears all or sets the key
abbrev pub slot_after : Bool → Bool → ℕ → Option Item → Slot → Slot
slot_after clear set number item s =
    cond clear (number, None) (cond set (s.0, Some (record { number = number; item = item })) s)

-- what an entry makes of what a face has of a key
abbrev pub slot_by : List ℕ → LogEntry → Slot → Slot
slot_by q e s = slot_after (is_clear e.change) (sets q e.target e.change) e.number (item_put e.change) s

-- what these entries, one after another, make of what a face has of a key
abbrev pub slot_by_all : List ℕ → List LogEntry → Slot → Slot
slot_by_all q [] s = s
slot_by_all q (e ∷ es) s = slot_by_all q es (slot_by q e s)

-- the step of an entry, if it makes one
abbrev pub face_by : FaceState → Option FaceStep → FaceState
face_by f None = f
face_by f (Some x) = face_after f x

stepped : (f : FaceState) (o : Option FaceStep) (xs : List FaceStep)
    → face_after_all f (cons_option o xs) ≡ face_after_all (face_by f o) xs
stepped f None xs = refl
stepped f (Some x) xs = refl

paired : (b : Bool) (c : ℕ) (x y : Option Version) → ◌≡◌ {A = Slot} (c, cond b x y) (cond b (c, x) (c, y))
paired true c x y = refl
paired false c x y = refl

put_slot : (f : FaceState) (k : List ℕ) (v : Version) (q : List ℕ)
    → slot (record f { versions = maps.insert f.versions k v }) q ≡ cond (eq_by_cmp key_cmp k q) (f.cleared, Some v)
    (slot f q)
put_slot f k v q =
    ap (λ (o : Option Version). (f.cleared, o))
    (get-insert nat_list_cmp_total f.versions k v q ∙ ap (λ b. cond b (Some v) (maps.get f.versions q))
    ((eq_by_cmp_equiv nat_list_cmp_total).symm q k))
    ∙ paired (eq_by_cmp key_cmp k q) f.cleared (Some v) (maps.get f.versions q)

slot-by : (f : FaceState) (number : ℕ) (target : Target) (change : Change) (q : List ℕ)
    → slot (face_by f (face_step number target change)) q ≡ slot_after (is_clear change) (sets q target change) number
    (item_put change) (slot f q)
slot-by f number (One k) Keep q = refl
slot-by f number (One k) (Put item) q = put_slot f k (record { number = number; item = Some item }) q
slot-by f number (One k) Drop q = put_slot f k (record { number = number; item = None }) q
slot-by f number (One k) Clear q = ap (λ (o : Option Version). (number, o)) (get-empty key_cmp q)
slot-by f number All Keep q = refl
slot-by f number All (Put item) q = refl
slot-by f number All Drop q = refl
slot-by f number All Clear q = ap (λ (o : Option Version). (number, o)) (get-empty key_cmp q)

-- entries change a face key by key
pub slot-all : (f : FaceState) (es : List LogEntry) (q : List ℕ)
    → slot (face_after_all f (face_steps es)) q ≡ slot_by_all q es (slot f q)
slot-all f [] q = refl
slot-all f (e ∷ es) q =
    ap (λ g. slot g q) (stepped f (face_step e.number e.target e.change) (face_steps es))
    ∙ slot-all (face_by f (face_step e.number e.target e.change)) es q
    ∙ ap (slot_by_all q es) (slot-by f e.number e.target e.change q)

-- ---- its item

item-changed : (items : Items) (target : Target) (change : Change) (q : List ℕ)
    → item_at (changed items target change) q
    ≡ cond (is_clear change) None (cond (sets q target change) (item_put change) (item_at items q))
item-changed items (One k) Keep q = refl
item-changed items (One k) (Put item) q = get-insert nat_list_cmp_total items k item q
    ∙ ap (λ b. cond b (Some item) (item_at items q)) ((eq_by_cmp_equiv nat_list_cmp_total).symm q k)
item-changed items (One k) Drop q = get-remove nat_list_cmp_total items k q ∙ ap (λ b. cond b None (item_at items q))
    ((eq_by_cmp_equiv nat_list_cmp_total).symm q k)
item-changed items (One k) Clear q = get-empty key_cmp q
item-changed items All Keep q = refl
item-changed items All (Put item) q = refl
item-changed items All Drop q = refl
item-changed items All Clear q = get-empty key_cmp q

item_step : (clear set : Bool) (number : ℕ) (item : Option Item) (s : Slot)
    → cond clear None (cond set item (item_in s.1)) ≡ item_in (slot_after clear set number item s).1
item_step true set number item s = refl
item_step false true number item s = refl
item_step false false number item s = refl

-- the newest version's item is the key's item after the entries
pub item-all : (q : List ℕ) (es : List LogEntry) (items : Items) (s : Slot)
    → item_at items q ≡ item_in s.1
    → item_at (items_after items es) q ≡ item_in (slot_by_all q es s).1
item-all q [] items s is = is
item-all q (e ∷ es) items s is = item-all q es (changed items e.target e.change) (slot_by q e s)
    (item-changed items e.target e.change q
    ∙ ap (λ i. cond (is_clear e.change) None (cond (sets q e.target e.change) (item_put e.change) i)) is
    ∙ item_step (is_clear e.change) (sets q e.target e.change) e.number (item_put e.change) s)

-- ---- its number

-- no version is older than the last clear, and none is above this number
pub record IsSlot (low : ℕ) (s : Slot) : Type 0 where
  pub ordered : s.0 ≤ number_in s.0 s.1
  pub below : number_in s.0 s.1 ≤ low

slot_step : (clear set : Bool) (number : ℕ) (item : Option Item) (low : ℕ) (s : Slot)
    → number ≡ low + 1
    → IsSlot low s
    → IsSlot (low + 1) (slot_after clear set number item s)
slot_step true set number item low s next h = record { ordered = omega arith; below = omega arith }
slot_step false true number item low s next h =
    record { ordered = omega (arith, h.ordered, h.below); below = omega arith }
slot_step false false number item low s next h = record { ordered = h.ordered; below = omega (arith, h.below) }

-- entries of a log keep it so: no version older than the last clear, and none above the log's end
pub slot-is : (q : List ℕ) (low high : ℕ) (es : List LogEntry) (s : Slot)
    → high ≡ low + length es
    → IsLog low es
    → IsSlot low s
    → IsSlot high (slot_by_all q es s)
slot-is q low high [] s is log h = record { ordered = h.ordered; below = omega (arith, h.below) }
slot-is q low high (e ∷ es) s is log h =
    slot-is q (low + 1) high es (slot_by q e s) (omega arith) log.2
    (slot_step (is_clear e.change) (sets q e.target e.change) e.number (item_put e.change) low s log.1 h)

none_below : (n acked : ℕ) (r : Bool) → acked < n → (nat_le n acked && r) ≡ false
none_below n acked r above = rw (lt-leb n acked above) refl

newer_step : (clear set : Bool) (number : ℕ) (item : Option Item) (acked : ℕ) (s : Slot) (r : Bool) → acked < number
    → (nat_le (number_in (slot_after clear set number item s).0 (slot_after clear set number item s).1) acked && not r)
    ≡ (nat_le (number_in s.0 s.1) acked && not ((set || clear) || r))
newer_step true true number item acked s r above = none_below number acked (not r) above ∙ sym (and_right _ false refl)
newer_step true false number item acked s r above = none_below number acked (not r) above ∙ sym (and_right _ false refl)
newer_step false true number item acked s r above = none_below number acked (not r) above ∙ sym (and_right _ false refl)
newer_step false false number item acked s r above = refl

both : (b : Bool) → b ≡ (b && true)
both true = refl
both false = refl

-- of entries above the commit number, each that touches the key makes it dirty
newer : (q : List ℕ) (low acked : ℕ) (es : List LogEntry) (s : Slot) → acked ≤ low → IsLog low es
    → nat_le (number_in (slot_by_all q es s).0 (slot_by_all q es s).1) acked
    ≡ (nat_le (number_in s.0 s.1) acked && not (list_any (touches q) es))
newer q low acked [] s le log = both _
newer q low acked (e ∷ es) s le log =
    newer q (low + 1) acked es (slot_by q e s) (omega arith) log.2
    ∙ newer_step (is_clear e.change) (sets q e.target e.change) e.number (item_put e.change) acked s
    (list_any (touches q) es) (omega (arith, log.1))

-- the newest version is acknowledged exactly if no entry above the commit number touches the key
pub acked-all : (q : List ℕ) (k low acked : ℕ) (es : List LogEntry) (s : Slot)
    → acked ≡ low + k
    → IsLog low es
    → IsSlot low s
    → nat_le (number_in (slot_by_all q es s).0 (slot_by_all q es s).1) acked ≡ not (list_any (touches q) (drop k es))
acked-all q zero low acked es s is log h = newer q low acked es s (omega arith) log
    ∙ ap (λ b. b && not (list_any (touches q) es)) (le-leb (number_in s.0 s.1) acked (omega (arith, h.below)))
acked-all q (suc k) low acked [] s is log h = le-leb (number_in s.0 s.1) acked (omega (arith, h.below))
acked-all q (suc k) low acked (e ∷ es) s is log h =
    acked-all q k (low + 1) acked es (slot_by q e s) (omega arith) log.2
    (slot_step (is_clear e.change) (sets q e.target e.change) e.number (item_put e.change) low s log.1 h)

-- ---- what is shown of it

-- a key's version at a commit number
abbrev pub kept : ℕ → Option Version → Option Version
kept n o = cond (not (is_removed n o)) o None

-- a clear at a commit number: one that is acknowledged is forgotten
abbrev pub kept_clear : ℕ → ℕ → ℕ
kept_clear n cleared = cond (nat_le cleared n) 0 cleared

-- what is kept of a key at a commit number
abbrev pub slot_at : ℕ → Slot → Slot
slot_at n s = (kept_clear n s.0, kept n s.1)

-- a face that is brought to a commit number keeps just that of each key
pub slot-face_at : (n : ℕ) (f : FaceState) (q : List ℕ) → slot (face_at n f) q ≡ slot_at n (slot f q)
slot-face_at n f q = ap (λ (o : Option Version). (kept_clear n f.cleared, o))
    (get-retain_keys f.versions (λ key. not (is_removed n (maps.get f.versions key))) q
    (λ x t. ap (λ o. not (is_removed n o)) (get_tied nat_list_cmp_total f.versions q x t)))

-- the look at a key by its slot: clean with the newest version's item if that is acknowledged, else dirty
abbrev pub shown : ℕ → Slot → Look Item
shown acked s = cond (nat_le (number_in s.0 s.1) acked) (Clean (item_in s.1)) Dirty

acked_clear : (b : Bool) (c acked : ℕ)
    → nat_le c acked ≡ b
    → look_at_version (cond b 0 c) acked None ≡ cond b (Clean None) Dirty
acked_clear true c acked is = ap (λ b. cond b (Clean None) Dirty) (le-leb 0 acked (omega arith))
acked_clear false c acked is = rw is refl

removed_version : (b : Bool) (c acked number : ℕ) → nat_le number acked ≡ b → c ≤ number
    → look_at_version (kept_clear acked c) acked (cond (not b) (Some (record { number = number; item = None })) None)
    ≡ cond b (Clean None) Dirty
removed_version true c acked number is le = rw (le-leb c acked (omega (arith, leb-true number acked is)))
    (acked_clear true c acked (le-leb c acked (omega (arith, leb-true number acked is))))
removed_version false c acked number is le = rw is refl

look-version : (c acked number : ℕ) (item : Option Item) → c ≤ number
    → look_at_version (kept_clear acked c) acked (kept acked (Some (record { number = number; item = item })))
    ≡ cond (nat_le number acked) (Clean item) Dirty
look-version c acked number None le = removed_version (nat_le number acked) c acked number refl le
look-version c acked number (Some i) le = refl

look-kept : (acked : ℕ) (s : Slot)
    → s.0 ≤ number_in s.0 s.1
    → look_at_version (kept_clear acked s.0) acked (kept acked s.1) ≡ shown acked s
look-kept acked (c, None) le = acked_clear (nat_le c acked) c acked refl
look-kept acked (c, Some v) le = look-version c acked v.number v.item le

-- a look at a face at a commit number shows the slot before acknowledged versions were taken away
pub look-face_at : (acked : ℕ) (f : FaceState) (q : List ℕ)
    → (slot f q).0 ≤ number_in (slot f q).0 (slot f q).1
    → look_at (face_at acked f) q ≡ shown acked (slot f q)
look-face_at acked f q le =
    ap (λ (s : Slot). look_at_version s.0 acked s.1) (slot-face_at acked f q) ∙ look-kept acked (slot f q) le

-- ---- the base

-- the version that an item of the base is: its number is the item's unique
abbrev pub based_version : Item → Version
based_version item = record { number = item.unique; item = Some item }

find_version : (b : Bool) (item : Item) (o : Option Item)
    → cond b (Some (based_version item)) (option_map based_version o) ≡ option_map based_version (cond b (Some item) o)
find_version true item o = refl
find_version false item o = refl

found : (es : List (List ℕ × Item)) (q : List ℕ)
    → find key_cmp q (map (λ e. (e.0, based_version e.1)) es) ≡ option_map based_version (find key_cmp q es)
found [] q = refl
found (e ∷ es) q = ap (cond (eq_by_cmp key_cmp q e.0) (Some (based_version e.1))) (found es q)
    ∙ find_version (eq_by_cmp key_cmp q e.0) e.1 (find key_cmp q es)

-- a base's version of a key is its item's
pub get-versions_of : (items : Items) (q : List ℕ)
    → maps.get (versions_of items) q ≡ option_map based_version (item_at items q)
get-versions_of items q = get-from_entries nat_list_cmp_total _ q ∙ found (maps.entries items) q
    ∙ ap (option_map based_version) (sym (get-entries items q))

-- the face before the entries above the floor
abbrev pub face_based : ServerState → FaceState
face_based s = record { versions = versions_of s.store.base; cleared = 0; acked = s.store.floor }

-- the version of a base's item, if there is one, has this item
pub item_based : (o : Option Item) → o ≡ item_in (option_map based_version o)
item_based None = refl
item_based (Some item) = refl

-- a key that has its base's item alone has no version above the floor
pub slot_based : (floor : ℕ) (o : Option Item)
    → ((item : Item) → o ≡ Some item → item.unique ≤ floor)
    → IsSlot floor (0, option_map based_version o)
slot_based floor None h = record { ordered = omega arith; below = omega arith }
slot_based floor (Some item) h = record { ordered = omega arith; below = h item refl }

-- before the entries above the floor, a face has of a key the base's item alone
pub slot-face_based : (s : ServerState) (q : List ℕ)
    → slot (face_based s) q ≡ (0, option_map based_version (item_at s.store.base q))
slot-face_based s q = ap (λ (o : Option Version). (0, o)) (get-versions_of s.store.base q)

-- what the face has of a key before acknowledged versions are taken away
abbrev pub slot_of : ServerState → List ℕ → Slot
slot_of s q = slot_by_all q s.store.rest (0, option_map based_version (item_at s.store.base q))

-- what the entries above the floor make of a key's slot, from the base's item on
pub slot-raw : (s : ServerState) (q : List ℕ)
    → slot (face_after_all (face_based s) (face_steps s.store.rest)) q ≡ slot_of s q
slot-raw s q = slot-all (face_based s) s.store.rest q ∙ ap (slot_by_all q s.store.rest) (slot-face_based s q)

-- nothing that a sound server's face has of a key is above the last number
pub slot_of-is : (s : ServerState) (q : List ℕ) → IsSound s → IsSlot (last_number s.store) (slot_of s q)
slot_of-is s q h = slot-is q s.store.floor (last_number s.store) s.store.rest _ refl h.store.log
    (slot_based s.store.floor (item_at s.store.base q) (h.based q))

shown_as : (a b : Bool) (i j : Option Item) → a ≡ b → i ≡ j → cond a (Clean i) Dirty ≡ cond b (Clean j) Dirty
shown_as a b i j e g = rw (e, g) refl

value-last : (s : ServerState) (q : List ℕ) → value_at s.store q (last_number s.store) ≡ item_in (slot_of s q).1
value-last s q =
    ap (λ es. item_at (items_after s.store.base es) q)
    (take_all (last_number s.store - s.store.floor) s.store.rest (omega arith))
    ∙ item-all q s.store.rest s.store.base _ (item_based (item_at s.store.base q))

-- the look at a server's face is what the server itself shows
pub look-face_of : (s : ServerState) (q : List ℕ) → IsSound s → look_at (face_of s) q ≡ peeked s q
look-face_of s q h =
    let is = slot_of-is s q h in
    let same = slot-raw s q in
    look-face_at s.store.acked (face_after_all (face_based s) (face_steps s.store.rest)) q
    (subst (λ (t : Slot). t.0 ≤ number_in t.0 t.1) (sym same) is.ordered)
    ∙ ap (shown s.store.acked) same
    ∙ shown_as _ _ _ _
    (acked-all q (s.store.acked - s.store.floor) s.store.floor s.store.acked s.store.rest _
    (omega (arith, h.store.floor_acked)) h.store.log
    (slot_based s.store.floor (item_at s.store.base q) (h.based q)))
    (sym (value-last s q))
