-- The change of a step, done on the face before it, gives the face after it.
use Rattle.std.proofs.Common.{◌≡◌, ℕ, ◌+◌, ◌-◌, ◌≤◌, nat_le, Bool, true, false, not, cond, List, [], ◌∷◌, ◌++◌, length}
use Rattle.std.proofs.Common.{take, drop, Option, None, Some, refl, sym, ap, ◌∙◌, arith, length-take-le, drop_at}
use Rattle.std.specs.FinMap.{same_map}
use Rattle.std.specs.Cmp.Lexicographic.{nat_list_cmp_total}
use Rattle.std.specs.Option.{option_map}
use Rattle.std.proofs.lemmas.Map.Lookups.{exact_bytes}
use Rattle.std.proofs.lemmas.Bool.{le-leb, leb-true}
use Rattle.std.proofs.lemmas.List.{take-append-drop}
use Rattle.table.specs.Plain.{item_at}
use Rattle.table.specs.Items.{Item, Version}
use Rattle.table.specs.declared.operations.Change.{Change}
use Rattle.table.specs.declared.operations.Change.TheVariants.{Keep, Put, Drop, Clear}
use Rattle.versions.specs.Entries.{LogEntry, PutsOwn, is_clear, item_put}
use Rattle.versions.specs.Stores.{IsLog, last_number, sets, entries_after, items_after, dropped_to}
use Rattle.node.specs.declared.messages.Input.{Input}
use Rattle.node.specs.Servers.{ServerState}
use Rattle.node.specs.Steps.{taken_in, least_open, trimmed, step}
use Rattle.node.specs.Lawful.{IsSound, IsLawful, IsInput, HoldsEntry}
use Rattle.node.specs.Faces.{FaceState, face_after_all, face_changed, face_steps, face_of, steps_by, acked_by}
use Rattle.node.proofs.SoundLaws.{least_within}
use Rattle.node.proofs.Growth.{Grows}
use Rattle.node.proofs.DoneActions.{sound_after, grown_after}
use Rattle.node.proofs.DoneSteps.{rule_taken_in}
use Rattle.node.proofs.FaceLaws.{Slot, slot, number_in, item_in, slot_after, slot_by, slot_by_all, slot-all, item-all}
use Rattle.node.proofs.FaceLaws.{slot-is, kept, kept_clear, slot_at, slot-face_at, based_version, face_based}
use Rattle.node.proofs.FaceLaws.{item_based, slot_based, slot_of, slot-raw}
use Rattle.versions.proofs.Logs.{log-take}

-- ---- what a commit number takes away stays away

no_clear : (n c : ℕ) → c ≤ n → kept_clear n c ≡ 0
no_clear n c le = rw (le-leb c n le) refl

cleared_again : (b : Bool) (a n c : ℕ) → nat_le c a ≡ b → a ≤ n → kept_clear n (cond b 0 c) ≡ kept_clear n c
cleared_again true a n c is le = no_clear n 0 (omega arith) ∙ sym (no_clear n c (omega (arith, leb-true c a is)))
cleared_again false a n c is le = refl

removed : (n number : ℕ) → number ≤ n → kept n (Some (record { number = number; item = None })) ≡ None
removed n number le = rw (le-leb number n le) refl

removed_again : (b : Bool) (a n number : ℕ) → nat_le number a ≡ b → a ≤ n
    → kept n (cond (not b) (Some (record { number = number; item = None })) None)
    ≡ kept n (Some (record { number = number; item = None }))
removed_again true a n number is le = sym (removed n number (omega (arith, leb-true number a is)))
removed_again false a n number is le = refl

kept_version : (a n number : ℕ) (item : Option Item)
    → a ≤ n
    → kept n (kept a (Some (record { number = number; item = item })))
    ≡ kept n (Some (record { number = number; item = item }))
kept_version a n number None le = removed_again (nat_le number a) a n number refl le
kept_version a n number (Some i) le = refl

kept_again : (a n : ℕ) (o : Option Version) → a ≤ n → kept n (kept a o) ≡ kept n o
kept_again a n None le = refl
kept_again a n (Some v) le = kept_version a n v.number v.item le

pair_of : (c d : ℕ) (o p : Option Version) → c ≡ d → o ≡ p → ◌≡◌ {A = Slot} (c, o) (d, p)
pair_of c d o p e g = λ i. (e i, g i)

slot_again : (a n : ℕ) (s : Slot) → a ≤ n → slot_at n (slot_at a s) ≡ slot_at n s
slot_again a n s le = pair_of _ _ _ _ (cleared_again (nat_le s.0 a) a n s.0 refl le) (kept_again a n s.1 le)

-- ---- entries keep what a commit number doesn't tell apart

same_after : (clear set : Bool) (number : ℕ) (item : Option Item) (n : ℕ) (s t : Slot)
    → slot_at n s ≡ slot_at n t
    → slot_at n (slot_after clear set number item s) ≡ slot_at n (slot_after clear set number item t)
same_after true set number item n s t e = refl
same_after false true number item n s t e =
    ap (λ (u : Slot). (u.0, kept n (Some (record { number = number; item = item })))) e
same_after false false number item n s t e = e

same_after_all : (q : List ℕ) (n : ℕ) (es : List LogEntry) (s t : Slot)
    → slot_at n s ≡ slot_at n t
    → slot_at n (slot_by_all q es s) ≡ slot_at n (slot_by_all q es t)
same_after_all q n [] s t h = h
same_after_all q n (e ∷ es) s t h =
    same_after_all q n es (slot_by q e s) (slot_by q e t)
    (same_after (is_clear e.change) (sets q e.target e.change) e.number (item_put e.change) n s t h)

by_all-append : (q : List ℕ) (es fs : List LogEntry) (s : Slot)
    → slot_by_all q (es ++ fs) s ≡ slot_by_all q fs (slot_by_all q es s)
by_all-append q [] fs s = refl
by_all-append q (e ∷ es) fs s = by_all-append q es fs (slot_by q e s)

-- ---- a version's item has its number as its unique

-- an item, if there is one, has this number as its unique
abbrev pub IsOwnItem : ℕ → Option Item → Type 0
IsOwnItem number None = Unit {0}
IsOwnItem number (Some item) = item.unique ≡ number

-- a version's item, if it has one, has the version's number as its unique
abbrev pub IsOwn : Option Version → Type 0
IsOwn None = Unit {0}
IsOwn (Some v) = IsOwnItem v.number v.item

own_put : (number : ℕ) (change : Change) → PutsOwn number change → IsOwnItem number (item_put change)
own_put number Keep h = tt
own_put number (Put item) h = h.0
own_put number Drop h = tt
own_put number Clear h = tt

own_step : (clear set : Bool) (number : ℕ) (item : Option Item) (s : Slot)
    → IsOwnItem number item
    → IsOwn s.1
    → IsOwn (slot_after clear set number item s).1
own_step true set number item s put h = tt
own_step false true number item s put h = put
own_step false false number item s put h = h

own_all : (q : List ℕ) (low : ℕ) (es : List LogEntry) (s : Slot)
    → IsLog low es
    → IsOwn s.1
    → IsOwn (slot_by_all q es s).1
own_all q low [] s log h = h
own_all q low (e ∷ es) s log h =
    own_all q (low + 1) es (slot_by q e s) log.2
    (own_step (is_clear e.change) (sets q e.target e.change) e.number (item_put e.change) s
    (own_put e.number e.change log.0.put) h)

own_based : (o : Option Item) → IsOwn (option_map based_version o)
own_based None = tt
own_based (Some item) = refl

settled_version : (n number : ℕ) (item : Option Item)
    → number ≤ n
    → IsOwnItem number item
    → kept n (option_map based_version item) ≡ kept n (Some (record { number = number; item = item }))
settled_version n number None le own = sym (removed n number le)
settled_version n number (Some i) le own = rw own refl

settled_kept : (n c : ℕ) (o : Option Version)
    → number_in c o ≤ n
    → IsOwn o
    → kept n (option_map based_version (item_in o)) ≡ kept n o
settled_kept n c None le own = refl
settled_kept n c (Some v) le own = settled_version n v.number v.item le own

-- acknowledged versions are those of the base that has their items
settled : (n : ℕ) (s : Slot)
    → s.0 ≤ number_in s.0 s.1
    → number_in s.0 s.1 ≤ n
    → IsOwn s.1
    → slot_at n (0, option_map based_version (item_in s.1)) ≡ slot_at n s
settled n s ordered le own =
    pair_of _ _ _ _ (no_clear n 0 (omega arith) ∙ sym (no_clear n s.0 (omega (arith, ordered, le))))
    (settled_kept n s.0 s.1 le own)

-- ---- the floor follows

settled_front : (s : ServerState) (q : List ℕ) (k m n : ℕ)
    → IsSound s
    → m ≡ s.store.floor + k
    → k ≤ length s.store.rest
    → m ≤ n
    → slot_at n (0, option_map based_version (item_at (items_after s.store.base (take k s.store.rest)) q))
    ≡ slot_at n (slot_by_all q (take k s.store.rest) (0, option_map based_version (item_at s.store.base q)))
settled_front s q k m n h is within le =
    let front = take k s.store.rest in
    let count : length front ≡ k = length-take-le k s.store.rest within in
    let log = log-take s.store.floor k s.store.rest h.store.log in
    let opening_slot : Slot = (0, option_map based_version (item_at s.store.base q)) in
    let is_slot = slot-is q s.store.floor m front opening_slot (omega (arith, count)) log
    (slot_based s.store.floor (item_at s.store.base q) (h.based q)) in
    ap (λ o. slot_at n (0, option_map based_version o))
    (item-all q front s.store.base opening_slot (item_based (item_at s.store.base q)))
    ∙ settled n (slot_by_all q front opening_slot) is_slot.ordered (omega (arith, is_slot.below))
    (own_all q s.store.floor front opening_slot log (own_based (item_at s.store.base q)))

slot-dropped : (s : ServerState) (q : List ℕ) (m n : ℕ)
    → IsSound s
    → s.store.floor ≤ m
    → m ≤ last_number s.store
    → m ≤ n
    → slot_at n (slot_of (record s { store = dropped_to s.store m }) q) ≡ slot_at n (slot_of s q)
slot-dropped s q m n h low high le =
    let k = m - s.store.floor in
    let front = take k s.store.rest in
    let back = drop k s.store.rest in
    let opening_slot : Slot = (0, option_map based_version (item_at s.store.base q)) in
    same_after_all q n back _ _ (settled_front s q k m n h (omega arith) (omega arith) le)
    ∙ ap (slot_at n) (sym (by_all-append q front back opening_slot) ∙ ap (λ es. slot_by_all q es opening_slot)
    (take-append-drop k s.store.rest))

-- ---- the change

slot-face_of : (s : ServerState) (q : List ℕ) → slot (face_of s) q ≡ slot_at s.store.acked (slot_of s q)
slot-face_of s q = slot-face_at s.store.acked (face_after_all (face_based s) (face_steps s.store.rest)) q
    ∙ ap (slot_at s.store.acked) (slot-raw s q)

added : (s t : ServerState) (g : Grows s t) → entries_after t.store (last_number s.store) ≡ g.more
added s t g =
    ap (λ es. drop (last_number s.store - t.store.floor) es) g.rest
    ∙ drop_at s.store.rest g.more (last_number s.store - t.store.floor) (omega (arith, g.floor))

slot-grown : (s t : ServerState) (g : Grows s t) (q : List ℕ) → slot_by_all q g.more (slot_of s q) ≡ slot_of t q
slot-grown s t g q =
    sym (by_all-append q s.store.rest g.more (0, option_map based_version (item_at s.store.base q)))
    ∙ ap (λ es. slot_by_all q es (0, option_map based_version (item_at s.store.base q))) (sym g.rest)
    ∙ ap (λ base. slot_by_all q t.store.rest (0, option_map based_version (item_at base q))) (sym g.base)

slot-changed : (s t : ServerState) (g : Grows s t) (q : List ℕ) → s.store.acked ≤ t.store.acked
    → slot (face_changed (face_of s) (face_steps (entries_after t.store (last_number s.store))) t.store.acked) q
    ≡ slot_at t.store.acked (slot_of t q)
slot-changed s t g q le =
    slot-face_at t.store.acked (face_after_all (face_of s) (face_steps (entries_after t.store (last_number s.store)))) q
    ∙ ap (slot_at t.store.acked) (slot-all (face_of s) (entries_after t.store (last_number s.store)) q)
    ∙ ap (λ es. slot_at t.store.acked (slot_by_all q es (slot (face_of s) q))) (added s t g)
    ∙ ap (λ u. slot_at t.store.acked (slot_by_all q g.more u)) (slot-face_of s q)
    ∙ same_after_all q t.store.acked g.more _ _ (slot_again s.store.acked t.store.acked (slot_of s q) le)
    ∙ ap (slot_at t.store.acked) (slot-grown s t g q)

-- faces with the same of each key are the same
same_face : (f g : FaceState) → f.acked ≡ g.acked → ((q : List ℕ) → slot f q ≡ slot g q) → f ≡ g
same_face f g acked same =
    let versions : f.versions ≡ g.versions =
    same_map nat_list_cmp_total exact_bytes f.versions g.versions (λ q. ap (λ (s : Slot). s.1) (same q)) in
    let cleared : f.cleared ≡ g.cleared = ap (λ (s : Slot). s.0) (same []) in
    λ i. record { versions = versions i; cleared = cleared i; acked = acked i }

changed-trimmed : (s t : ServerState) → Grows s t → s.store.acked ≤ t.store.acked → IsSound t
    → face_changed (face_of s) (face_steps (entries_after t.store (last_number s.store))) t.store.acked
    ≡ face_of (trimmed t)
unfolding trimmed
changed-trimmed s t g le h =
    let between = least_within 0 t.store.floor t.asks t.next_ask t.store.acked h.reads in
    same_face _ _ refl (λ q. slot-changed s t g q le
    ∙ sym (slot-face_of (record t { store = dropped_to t.store (least_open t.store.acked t.asks) }) q
    ∙ slot-dropped t q (least_open t.store.acked t.asks) t.store.acked h between.0
    (omega (arith, between.1, h.store.acked_held)) between.1))

-- the change of a step, done on the face before, gives the face after
pub face-changed : (s : ServerState) (input : Input) → IsInput input → HoldsEntry input → IsLawful s
    → face_changed (face_of s) (steps_by s input) (acked_by s input) ≡ face_of (step s input).state
face-changed s input fit valid h =
    let r = rule_taken_in s input h.sound h.settled fit valid in
    changed-trimmed s (taken_in s input).state r.grows (grown_after _ s _ r.done).acked (sound_after _ s _ r.done)
