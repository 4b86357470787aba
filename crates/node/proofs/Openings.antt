-- A face that is made from nothing: the base's items one after another, and then the entries above the floor.
use Rattle.std.proofs.Common.{◌≡◌, ◌∙◌, ℕ, ◌-◌, Bool, true, false, cond, List, [], ◌∷◌, ◌++◌, drop, map, Option}
use Rattle.std.proofs.Common.{Some, refl, ap, sym, arith}
use Rattle.std.specs.FinMap as maps
use Rattle.std.specs.FinMap.{get-insert, get-empty, same_map}
use Rattle.std.specs.Ordering.{eq_by_cmp}
use Rattle.std.specs.Cmp.Lexicographic.{nat_list_cmp_total}
use Rattle.std.specs.Option.{option_map}
use Rattle.std.proofs.lemmas.Map.Lookups.{exact_bytes}
use Rattle.table.specs.Keys.{key_cmp}
use Rattle.table.specs.Plain.{Items, item_at}
use Rattle.table.specs.Items.{Item}
use Rattle.versions.specs.Stores.{StoreState, items_put, entries_after}
use Rattle.node.specs.declared.faces.FaceStep.{FaceStep}
use Rattle.node.specs.declared.faces.FaceStep.TheVariants.{Set, Clear}
use Rattle.node.specs.Servers.{ServerState}
use Rattle.node.specs.Faces.{FaceState, Versions, face_after, face_after_all, face_at, face_changed, face_steps}
use Rattle.node.specs.Faces.{face_of, versions_of, base_step, no_face}
use Rattle.node.proofs.FaceLaws.{based_version, get-versions_of}

-- the versions are those of these items
abbrev pub AreBased : Versions → Items → Type 0
AreBased versions items = (q : List ℕ) → maps.get versions q ≡ option_map based_version (item_at items q)

chosen : (b : Bool) (i : Item) (o : Option Item)
    → cond b (Some (based_version i)) (option_map based_version o) ≡ option_map based_version (cond b (Some i) o)
chosen true i o = refl
chosen false i o = refl

based_more : (versions : Versions) (items : Items) (e : List ℕ × Item)
    → AreBased versions items
    → AreBased (maps.insert versions e.0 (based_version e.1)) (maps.insert items e.0 e.1)
based_more versions items e h q =
    get-insert nat_list_cmp_total versions e.0 (based_version e.1) q
    ∙ ap (cond (eq_by_cmp key_cmp q e.0) (Some (based_version e.1))) (h q)
    ∙ chosen (eq_by_cmp key_cmp q e.0) e.1 (item_at items q)
    ∙ ap (option_map based_version) (sym (get-insert nat_list_cmp_total items e.0 e.1 q))

based_all : (f : FaceState) (items : Items) (es : List (List ℕ × Item))
    → AreBased f.versions items
    → AreBased (face_after_all f (map base_step es)).versions (items_put items es)
based_all f items [] h = h
based_all f items (e ∷ es) h =
    based_all (face_after f (base_step e)) (maps.insert items e.0 e.1) es (based_more f.versions items e h)

cleared_all : (f : FaceState) (es : List (List ℕ × Item)) → (face_after_all f (map base_step es)).cleared ≡ f.cleared
cleared_all f [] = refl
cleared_all f (e ∷ es) = cleared_all (face_after f (base_step e)) es

same_versions : (versions : Versions) (items : Items) → AreBased versions items → versions ≡ versions_of items
same_versions versions items h =
    same_map nat_list_cmp_total exact_bytes versions (versions_of items) (λ q. h q ∙ sym (get-versions_of items q))

all-append : (f : FaceState) (xs ys : List FaceStep)
    → face_after_all f (xs ++ ys) ≡ face_after_all (face_after_all f xs) ys
all-append f [] ys = refl
all-append f (x ∷ xs) ys = all-append (face_after f x) xs ys

-- changes of versions don't ask for the commit number
after_unacked : (f g : FaceState) (x : FaceStep)
    → f.versions ≡ g.versions
    → f.cleared ≡ g.cleared
    → ((face_after f x).versions ≡ (face_after g x).versions) × ((face_after f x).cleared ≡ (face_after g x).cleared)
after_unacked f g (Set key version) v c = (ap (λ m. maps.insert m key version) v, c)
after_unacked f g (Clear number) v c = (refl, refl)

face_unacked : (f g : FaceState) (n : ℕ) → f.versions ≡ g.versions → f.cleared ≡ g.cleared → face_at n f ≡ face_at n g
face_unacked f g n v c = λ i. face_at n (record { versions = v i; cleared = c i; acked = n })

changed_unacked : (f g : FaceState) (xs : List FaceStep) (n : ℕ)
    → f.versions ≡ g.versions
    → f.cleared ≡ g.cleared
    → face_changed f xs n ≡ face_changed g xs n
changed_unacked f g [] n v c = face_unacked f g n v c
changed_unacked f g (x ∷ xs) n v c =
    let s = after_unacked f g x v c in changed_unacked (face_after f x) (face_after g x) xs n s.0 s.1

none_based : AreBased maps.empty maps.empty
none_based q = get-empty key_cmp q ∙ ap (option_map based_version) (sym (get-empty key_cmp q))

-- the whole face
pub whole-face : (s : ServerState) (es : List (List ℕ × Item))
    → items_put maps.empty es ≡ s.store.base
    → face_changed no_face (map base_step es ++ face_steps s.store.rest) s.store.acked ≡ face_of s
whole-face s es base =
    let made = face_after_all no_face (map base_step es) in
    ap (face_at s.store.acked) (all-append no_face (map base_step es) (face_steps s.store.rest))
    ∙ changed_unacked made (record { versions = versions_of s.store.base; cleared = 0; acked = s.store.floor })
    (face_steps s.store.rest) s.store.acked
    (same_versions made.versions (items_put maps.empty es) (based_all no_face maps.empty es none_based)
    ∙ ap versions_of base) (cleared_all no_face es)

rest_of : (store : StoreState) (above : ℕ) → above ≡ store.floor → entries_after store above ≡ store.rest
rest_of store above is = let none : above - store.floor ≡ 0 = omega arith in ap (λ k. drop k store.rest) none

-- the same by the parts of a server
pub whole-face_by : (s : ServerState) (store : StoreState) (es : List (List ℕ × Item)) (steps : List FaceStep)
    (above acked : ℕ)
    → store ≡ s.store
    → items_put maps.empty es ≡ store.base
    → above ≡ store.floor
    → acked ≡ store.acked
    → steps ≡ map base_step es ++ face_steps (entries_after store above) → face_changed no_face steps acked ≡ face_of s
whole-face_by s store es steps above acked same base floor at is =
    ap (λ n. face_changed no_face steps n) (at ∙ ap (λ (t : StoreState). t.acked) same)
    ∙ ap (λ xs. face_changed no_face xs s.store.acked)
    (is ∙ ap (λ rest. map base_step es ++ face_steps rest)
    (rest_of store above floor ∙ ap (λ (t : StoreState). t.rest) same))
    ∙ whole-face s es (base ∙ ap (λ (t : StoreState). t.base) same)
