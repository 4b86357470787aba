-- Who has no room for an update issues none later.
use Rattle.std.proofs.Common.{◌≡◌, ℕ, ◌<◌, ◌||◌, true, false, not, List, ◌++◌, length, None, refl, sym, ap, ◌∙◌, arith}
use Rattle.std.proofs.Common.{subst, inl, inr, append-nil}
use Rattle.std.specs.Prelude.{nat_lt}
use Rattle.std.proofs.lemmas.Bool.{and_parts, and_from, or_cases, or_left, or_right, both_ways, cases_Bool, cases_eq}
use Rattle.std.proofs.lemmas.Bool.{false_from_ne_true, lt-ltb, ltb-true, not-true, not_from_false}
use Rattle.versions.specs.Stores.{last_number}
use Rattle.node.specs.Views.{has}
use Rattle.node.specs.Servers.{most, head_of, is_head}
use Rattle.node.specs.Numbering.{is_room_for_update}
use Rattle.node.specs.Actions.{Action, Cause, Guard}
use Rattle.world.specs.Connections.{asked}
use Rattle.world.specs.Worlds.{server}
use Rattle.world.specs.Calls.{CallId}
use Rattle.world.proofs.trace.Traces.{Traced, issued_by, count, done}
use Rattle.world.proofs.trace.Layers.{Later, Framed, Lawful}
use Rattle.world.proofs.trace.TraceLaws.{enters, issued_done, issued_other}
use Rattle.world.proofs.trace.ChangeLaws.{issued_reconnected, issued_unlinked, issued_failing}
use Rattle.world.proofs.trace.IdLaws.{that_is, is_itself, head_is, head_from}
use Rattle.world.proofs.trace.Moves.{Move, Does, Comes, Starts, Works, Hands, Takes, Fails, moved, CanDo, IsMove}
use Rattle.world.proofs.trace.Moves.{Memory, recalled, Recalls}
use Rattle.world.proofs.moments.Goings.{Laws, Goes, kept_on}
use Rattle.world.proofs.streams.StreamSteps.{last_later}

-- server i has no id left for an update, or is the head and has no number left
abbrev pub IsFull : Traced → ℕ → Type 0
IsFull t i = (i < count t) × (is_room_for_update (server t.world i) ≡ false)

-- a head stays one
head_later : (t u : Traced) (i : ℕ)
    → Framed t
    → Framed u
    → Later t u
    → i < count t
    → is_head (server t.world i) ≡ true
    → is_head (server u.world i) ≡ true
head_later t u i f g later low h =
    let s = server t.world i in
    let v = server u.world i in
    let here : i < count u = rw later.count low in
    let was = head_is s.view s.count s.id (that_is (head_of s) s.id h) in
    let before : s.id ≡ i = f.id i low in
    let own : v.id ≡ i = g.id i here in
    let chain : v.count ≡ count u = g.chain i here in
    is_itself (head_of v) v.id (head_from v.view v.count v.id (record {
      within = omega (arith, own, chain, here);
      out = ap (λ x. has v.view x) own ∙ g.own i here;
      below = λ x l. later.views i x (was.below x (omega (arith, l, own, before)));
    }))

-- who has room has had it before
room_before : (t u : Traced) (i : ℕ)
    → Lawful t
    → Lawful u
    → Later t u
    → i < count t
    → is_room_for_update (server u.world i) ≡ true
    → is_room_for_update (server t.world i) ≡ true
room_before t u i l m later low h =
    let s = server t.world i in
    let v = server u.world i in
    let p = and_parts (nat_lt v.next_id most) (not (is_head v) || nat_lt (last_number v.store) most) h in
    let id : nat_lt s.next_id most ≡ true =
    lt-ltb s.next_id most (omega (arith, ltb-true v.next_id most p.0, later.ids i)) in
    let number : (not (is_head s) || nat_lt (last_number s.store) most) ≡ true =
    elim (cases_Bool (is_head s)) [
      | inr other ↦ or_left (not (is_head s)) (nat_lt (last_number s.store) most) (not_from_false (is_head s) other)
      | inl head ↦ elim (or_cases (not (is_head v)) (nat_lt (last_number v.store) most) p.1) [
        | inl apart ↦ absurd (both_ways (is_head v) (not-true (is_head v) apart)
            (head_later t u i l.framed m.framed later low head))
        | inr few ↦ or_right (not (is_head s)) (nat_lt (last_number s.store) most)
            (lt-ltb (last_number s.store) most
            (omega (arith, ltb-true (last_number v.store) most few, last_later t u l.logged m.logged later i low)))
      ]
    ] in
    and_from (nat_lt s.next_id most) (not (is_head s) || nat_lt (last_number s.store) most) id number

-- and who has none has none later
pub full_later : (t u : Traced) (i : ℕ) → Lawful t → Lawful u → Later t u → IsFull t i → IsFull u i
full_later t u i l m later full = (
  rw later.count full.0,
  false_from_ne_true (is_room_for_update (server u.world i))
      (λ room. both_ways (is_room_for_update (server t.world i)) full.1 (room_before t u i l m later full.0 room)),
)

-- ---- who has no room issues no update

-- the server is full, and these are the updates that it has issued
record IsSpent (i : ℕ) (xs : List CallId) (before : Memory) (t : Traced) : Type 0 where
  full : IsFull t i
  issued : issued_by t i ≡ xs

none_entered : (t : Traced) (i j : ℕ) (cause : Cause) (a : Action)
    → CanDo t j cause a
    → Framed t
    → IsFull t i
    → issued_by (done t j a) i ≡ issued_by t i
none_entered t i j cause a g f full = elim (cases_eq i j) [
  | inr other ↦ issued_other t j a i other
  | inl same ↦ elim (enters a) [
    | inl new ↦
        let guard = subst (λ b. Guard cause (server t.world j) b) new.2 g.guard in
        absurd (both_ways (is_room_for_update (server t.world j))
        (subst (λ k. is_room_for_update (server t.world k) ≡ false) same full.1) guard.3)
    | inr old ↦
        let low : j < length t.issued = rw f.issued (subst (λ k. k < count t) same full.0) in
        subst (λ k. issued_by (done t j a) k ≡ issued_by t k) (sym same)
        (issued_done t j a low ∙ ap (λ xs. issued_by t j ++ xs) (old t).0 ∙ append-nil (issued_by t j))
  ]
]

none_moved : (t : Traced) (i : ℕ) (m : Move)
    → IsMove t m
    → Framed t
    → IsFull t i
    → issued_by (moved t m) i ≡ issued_by t i
none_moved t i (Does j cause a) g f full = none_entered t i j cause a g f full
none_moved t i (Comes c bytes) g f full = issued_reconnected t c _ i
none_moved t i (Starts c) g f full = issued_reconnected t c _ i
none_moved t i (Works c) g f full = issued_reconnected t c asked i
none_moved t i (Hands c) g f full = issued_reconnected t c _ i
none_moved t i (Takes j k ms) g f full = issued_unlinked t j k ms i
none_moved t i (Fails j) g f full = issued_failing t j i

spent_moved : (i : ℕ) (xs : List CallId) (before : Memory) (t : Traced) (m : Move) (g : IsMove t m)
    → Recalls before m
    → Lawful t
    → Later t (moved t m)
    → Lawful (moved t m)
    → IsSpent i xs before t
    → IsSpent i xs (recalled t m g before) (moved t m)
spent_moved i xs before t m g r l later lawful h = record {
  full = full_later t (moved t m) i l lawful later h.full;
  issued = none_moved t i m g l.framed h.full ∙ h.issued;
}

-- between two moments a full server issues none
pub none_issued : Laws → (t u : Traced) (i : ℕ) → Goes t u → Lawful t → IsFull t i → issued_by u i ≡ issued_by t i
none_issued laws t u i goes l full =
    (kept_on laws (IsSpent i (issued_by t i)) (spent_moved i (issued_by t i)) None t u (goes None) l
    (record { full = full; issued = refl })).issued
