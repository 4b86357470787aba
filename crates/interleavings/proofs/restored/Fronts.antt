-- Calls that stand in an order before all others stand at its front, in turn; and what is left of the order without
-- them.
use Rattle.std.proofs.Common.{◌≡◌, ◌≢◌, ℕ, zero, suc, ◌+◌, ◌<◌, ◌≤◌, List, [], ◌∷◌, length, drop, map, None, Some, refl}
use Rattle.std.proofs.Common.{arith, ap, sym, ◌∙◌, subst, inl, inr}
use Rattle.std.specs.Prelude.{slice_get}
use Rattle.std.proofs.lemmas.Bool.{cases_eq}
use Rattle.std.proofs.lemmas.Option.{same_Some}
use Rattle.table.specs.Histories.{IsLegalFrom}
use Rattle.table.specs.Plain.{PlainTable, apply}
use Rattle.table.specs.declared.operations.Call.{Call}
use Rattle.node.proofs.Beginnings.{slice_get-drop}
use Rattle.world.specs.Calls.{CallId}
use Rattle.world.specs.Orders.{OrderedCall, StandsAt}
use Rattle.interleavings.specs.Restored.{table_after}

-- ---- a call of an order after one more

on : (e : OrderedCall) (h : List OrderedCall) (i : ℕ) (x : CallId) → StandsAt h i x → StandsAt (e ∷ h) (suc i) x
on e h i x s = record { entry = s.entry; here = s.here; same = s.same }

back : (e : OrderedCall) (h : List OrderedCall) (i : ℕ) (x : CallId) → StandsAt (e ∷ h) (suc i) x → StandsAt h i x
back e h i x s = record { entry = s.entry; here = s.here; same = s.same }

-- who stands first
at_first : (e : OrderedCall) (h : List OrderedCall) (x : CallId) → StandsAt (e ∷ h) 0 x → e.id ≡ x
at_first e h x s = ap (λ (c : OrderedCall). c.id) (same_Some e s.entry s.here) ∙ s.same

is_first : (e : OrderedCall) (h : List OrderedCall) (x : CallId) → e.id ≡ x → StandsAt (e ∷ h) 0 x
is_first e h x same = record { entry = e; here = refl; same = same }

-- ---- a front

-- so many calls from this one on stand in the order, each before all that are none of the calls up to it, and no
-- earlier one does
pub record AreFirst (name : ℕ → CallId) (many start : ℕ) (h : List OrderedCall) : Type 0 where
  pub once : (i j : ℕ) (x : CallId) → StandsAt h i x → StandsAt h j x → i ≡ j
  pub stand : (a : ℕ) → start ≤ a → a < start + many → (i : ℕ) × StandsAt h i (name a)
  pub before : (a j : ℕ) (y : CallId)
      → start ≤ a
      → a < start + many
      → StandsAt h j y
      → ((b : ℕ) → b ≤ a → y ≢ name b)
      → (i : ℕ) × (i < j) × StandsAt h i (name a)
  pub none : (b j : ℕ) → b < start → StandsAt h j (name b) → ⊥

module _ (name : ℕ → CallId) (apart : (a b : ℕ) → name a ≡ name b → a ≡ b) where
  module _ (many start : ℕ) (e : OrderedCall) (h : List OrderedCall) (f : AreFirst name (suc many) start (e ∷ h)) where
    -- the first entry is of none of the calls up to this one, or of it
    first_is : e.id ≡ name start
    first_is = by_place (f.stand start (omega arith) (omega arith)).0 (f.stand start (omega arith) (omega arith)).1
      where
        others : (i : ℕ) → StandsAt (e ∷ h) (suc i) (name start) → (b : ℕ) → b ≤ start → e.id ≢ name b
        others i s b l same = elim (cases_eq b start) [
          | inl at ↦ (let n = f.once 0 (suc i) (name start) (is_first e h (name start) (same ∙ ap name at)) s in
              absurd (omega (arith, n)))
          | inr other ↦ f.none b 0 (omega (arith, l, other)) (is_first e h (name b) same)
        ]

        by_place : (i : ℕ) → StandsAt (e ∷ h) i (name start) → e.id ≡ name start
        by_place zero s = at_first e h (name start) s
        by_place (suc i) s =
            let p = f.before start 0 e.id (omega arith) (omega arith) (is_first e h e.id refl) (others i s) in
            absurd (omega (arith, p.1))

    -- a later one doesn't stand first
    not_first : (a : ℕ) → suc start ≤ a → StandsAt (e ∷ h) 0 (name a) → ⊥
    not_first a l s = let n = apart start a (sym first_is ∙ at_first e h (name a) s) in omega (arith, l, n)

    -- those after the first one are a front of what is left
    rest_first : AreFirst name many (suc start) h
    rest_first = record {
      once = λ i j x s t. (let n = f.once (suc i) (suc j) x (on e h i x s) (on e h j x t) in omega (arith, n));
      stand = λ a l m. (let s = f.stand a (omega (arith, l)) (omega (arith, m)) in later a l s.0 s.1);
      before = λ a j y l m s g.
          (let p = f.before a (suc j) y (omega (arith, l)) (omega (arith, m)) (on e h j y s) g in
          earlier a j l p.0 p.1 p.2);
      none = λ b j l s. elim (cases_eq b start) [
        | inl at ↦ (let n = f.once 0 (suc j) (name b) (is_first e h (name b) (first_is ∙ ap name (sym at)))
            (on e h j (name b) s) in
            omega (arith, n))
        | inr other ↦ f.none b (suc j) (omega (arith, l, other)) (on e h j (name b) s)
      ];
    }
      where
        later : (a : ℕ) → suc start ≤ a → (i : ℕ) → StandsAt (e ∷ h) i (name a) → (i : ℕ) × StandsAt h i (name a)
        later a l zero s = absurd (not_first a l s)
        later a l (suc i) s = (i, back e h i (name a) s)

        earlier : (a j : ℕ) → suc start ≤ a → (i : ℕ) → i < suc j → StandsAt (e ∷ h) i (name a)
            → (i : ℕ) × (i < j) × StandsAt h i (name a)
        earlier a j l zero m s = absurd (not_first a l s)
        earlier a j l (suc i) m s = (i, omega (arith, m), back e h i (name a) s)

  -- each stands at its place
  pub in_front : (many start : ℕ) (h : List OrderedCall)
      → AreFirst name many start h
      → (a : ℕ)
      → a < many
      → StandsAt h a (name (start + a))
  in_front zero start h f a l = absurd (omega (arith, l))
  in_front (suc many) start [] f a l =
      let s = (f.stand start (omega arith) (omega arith)).1 in
      let no : None ≡ Some s.entry = s.here in
      absurd cc
  in_front (suc many) start (e ∷ h) f zero l =
      let same : start ≡ start + 0 = omega arith in
      is_first e h (name (start + 0)) (first_is many start e h f ∙ ap name same)
  in_front (suc many) start (e ∷ h) f (suc a) l =
      let same : suc start + a ≡ start + suc a = omega arith in
      subst (λ b. StandsAt (e ∷ h) (suc a) (name b)) same
      (on e h a (name (suc start + a))
      (in_front many (suc start) h (rest_first many start e h f) a (omega (arith, l))))

-- ---- what is left

-- an order is legal without its front from the table on that the front leaves
pub legal_after : (us : List Call) (h : List OrderedCall) (t : PlainTable)
    → ((a : ℕ) → a < length us → (e : OrderedCall) × (slice_get h a ≡ Some e) × (slice_get us a ≡ Some e.call))
    → IsLegalFrom t (map (λ e. (e.call, e.reply)) h)
    → IsLegalFrom (table_after t us) (map (λ e. (e.call, e.reply)) (drop (length us) h))
legal_after [] h t front legal = legal
legal_after (u ∷ us) [] t front legal =
    let f = front 0 (omega arith) in
    let no : None ≡ Some f.0 = f.1 in
    absurd cc
legal_after (u ∷ us) (e ∷ h) t front legal =
    let f = front 0 (omega arith) in
    let same : u ≡ e.call = same_Some u f.0.call f.2 ∙ ap (λ (c : OrderedCall). c.call) (sym (same_Some e f.0 f.1)) in
    subst (λ (c : Call).
    IsLegalFrom (table_after (apply t c.target c.op).1 us) (map (λ e. (e.call, e.reply)) (drop (length us) h))) (sym
    same)
    (legal_after us h (apply t e.call.target e.call.op).1 (λ a l. front (suc a) (omega (arith, l))) legal.1)

-- and what is left leaves of that table what the whole leaves
pub leaves_after : (us : List Call) (h : List OrderedCall) (t : PlainTable)
    → ((a : ℕ) → a < length us → (e : OrderedCall) × (slice_get h a ≡ Some e) × (slice_get us a ≡ Some e.call))
    → table_after (table_after t us) (map (λ e. e.call) (drop (length us) h)) ≡ table_after t (map (λ e. e.call) h)
leaves_after [] h t front = refl
leaves_after (u ∷ us) [] t front =
    let f = front 0 (omega arith) in
    let no : None ≡ Some f.0 = f.1 in
    absurd cc
leaves_after (u ∷ us) (e ∷ h) t front =
    let f = front 0 (omega arith) in
    let same : u ≡ e.call = same_Some u f.0.call f.2 ∙ ap (λ (c : OrderedCall). c.call) (sym (same_Some e f.0 f.1)) in
    ap (λ (c : Call). table_after (table_after (apply t c.target c.op).1 us) (map (λ e. e.call) (drop (length us) h)))
    same
    ∙ leaves_after us h (apply t e.call.target e.call.op).1 (λ a l. front (suc a) (omega (arith, l)))

-- who stands in what is left stands as much later in the whole
pub in_whole : (n i : ℕ) (h : List OrderedCall) (x : CallId) → StandsAt (drop n h) i x → StandsAt h (n + i) x
in_whole n i h x s = record { entry = s.entry; here = sym (slice_get-drop n h i) ∙ s.here; same = s.same }

pub in_rest : (n i : ℕ) (h : List OrderedCall) (x : CallId) → StandsAt h (n + i) x → StandsAt (drop n h) i x
in_rest n i h x s = record { entry = s.entry; here = slice_get-drop n h i ∙ s.here; same = s.same }
