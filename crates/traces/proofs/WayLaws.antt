-- Each way of a picture stands once among its ways, so each thing that was put on it has one arrow.
use Rattle.std.proofs.Common.{◌≡◌, ℕ, Bool, true, false, ◌&&◌, nat_eq, List, [], ◌∷◌, ◌++◌, length, refl, ap, sym, ◌∙◌}
use Rattle.std.proofs.Common.{subst, inl, inr, append_assoc}
use Rattle.std.specs.Prelude.{map, flat_map, IsPermutation, if◌then◌else◌}
use Rattle.std.specs.List.{AllByRecursion}
use Rattle.std.proofs.lemmas.Bool.{cases_eq, eqb-true, eq-eqb, ne_eqb}
use Rattle.std.proofs.lemmas.List.Sorted.{IsPermutation-refl, IsPermutation-sym, IsPermutation-trans}
use Rattle.std.proofs.lemmas.List.Sorted.{IsPermutation-cons, IsPermutation-append_left, IsPermutation-append_right}
use Rattle.std.proofs.lemmas.List.Sorted.{IsPermutation-append_comm}
use Rattle.world.specs.declared.events.Event.{Event}
use Rattle.world.specs.EventEffects.{TraceShown}
use Rattle.traces.specs.declared.crossings.Lane.{Lane}
use Rattle.traces.specs.declared.crossings.Lane.TheVariants.{Server, Connection}
use Rattle.traces.specs.declared.crossings.Way.{Way}
use Rattle.traces.specs.declared.crossings.Crossing.{Crossing}
use Rattle.traces.specs.Crossings.{from_to, if_on, is_same_lane, is_same_way, only_on, puts_of, row_after_all, takes_of}
use Rattle.traces.specs.Arrows.{IsWay, IsOnWay, arrows_among, arrows_of, ways_of}
use Rattle.traces.proofs.ArrowLaws.{laid_from_puts}
use Rattle.traces.proofs.EachWay.{hits, ways_hit}

-- lanes that are the same are one
same_lane : (a b : Lane) → is_same_lane a b ≡ true → a ≡ b
same_lane (Server i) (Server j) h = ap (λ k. Server k) (eqb-true i j h)
same_lane (Server i) (Connection d) h = absurd cc
same_lane (Connection c) (Server j) h = absurd cc
same_lane (Connection c) (Connection d) h = ap (λ k. Connection k) (eqb-true c d h)

same_ends : (v w : Way) (s t : Bool)
    → is_same_lane v.from w.from ≡ s
    → is_same_lane v.to w.to ≡ t
    → s && t ≡ true
    → v ≡ w
same_ends v w true true first second h =
    ap (λ a. from_to a v.to) (same_lane v.from w.from first) ∙ ap (λ b. from_to w.from b) (same_lane v.to w.to second)
same_ends v w true false first second h = absurd cc
same_ends v w false t first second h = absurd cc

-- ways that are the same are one
same_way : (v w : Way) → is_same_way v w ≡ true → v ≡ w
same_way v w h = same_ends v w (is_same_lane v.from w.from) (is_same_lane v.to w.to) refl refl h

-- what is on a way, of two lists
only_append : (v : Way) (xs ys : List Crossing) → only_on v (xs ++ ys) ≡ only_on v xs ++ only_on v ys
only_append v [] ys = refl
only_append v (x ∷ xs) ys =
    ap (λ rest. if_on v x ++ rest) (only_append v xs ys) ∙ sym (append_assoc (if_on v x) (only_on v xs) (only_on v ys))

one_on : (v : Way) (p : Crossing) (t : Bool)
    → is_same_way p.way v ≡ t
    → only_on v (if t then p ∷ [] else []) ≡ (if t then p ∷ [] else [])
unfolding if_on
one_on v p true here = ap (λ (t : Bool). (if t then p ∷ [] else []) ++ []) here
one_on v p false here = refl

other_on : (v w : Way) (p : Crossing) (t : Bool)
    → is_same_way w v ≡ false
    → is_same_way p.way w ≡ t
    → only_on v (if t then p ∷ [] else []) ≡ []
unfolding if_on
other_on v w p true other here =
    ap (λ (t : Bool). (if t then p ∷ [] else []) ++ [])
    (ap (λ (u : Way). is_same_way u v) (same_way p.way w here) ∙ other)
other_on v w p false other here = refl

-- what is on a way is on it
only_same : (v : Way) (ps : List Crossing) → only_on v (only_on v ps) ≡ only_on v ps
unfolding if_on
only_same v [] = refl
only_same v (p ∷ ps) =
    only_append v (if_on v p) (only_on v ps)
    ∙ ap (λ front. front ++ only_on v (only_on v ps)) (one_on v p (is_same_way p.way v) refl)
    ∙ ap (λ rest. if_on v p ++ rest) (only_same v ps)

-- and not on another one
only_other : (v w : Way) (ps : List Crossing) → is_same_way w v ≡ false → only_on v (only_on w ps) ≡ []
unfolding if_on
only_other v w [] other = refl
only_other v w (p ∷ ps) other =
    only_append v (if_on w p) (only_on w ps)
    ∙ ap (λ front. front ++ only_on v (only_on w ps)) (other_on v w p (is_same_way p.way w) other refl)
    ∙ only_other v w ps other

only_of : (v w : Way) (ps : List Crossing) (t : Bool)
    → is_same_way w v ≡ t
    → only_on v (only_on w ps) ≡ (if t then only_on v ps else [])
only_of v w ps true here = ap (λ (u : Way). only_on v (only_on u ps)) (same_way w v here) ∙ only_same v ps
only_of v w ps false here = only_other v w ps here

only_all : (v : Way) (ps : List Crossing) (ws : List Way)
    → only_on v (flat_map (λ w. only_on w ps) ws) ≡ hits v (only_on v ps) ws
only_all v ps [] = refl
only_all v ps (w ∷ ws) =
    only_append v (only_on w ps) (flat_map (λ u. only_on u ps) ws)
    ∙ ap (λ front. front ++ only_on v (flat_map (λ u. only_on u ps) ws)) (only_of v w ps (is_same_way w v) refl)
    ∙ ap (λ rest. (if is_same_way w v then only_on v ps else []) ++ rest) (only_all v ps ws)

-- the arrows on a way stand for what was put on it, in order
pub on_each_way : (homes : List ℕ) (events : List Event) (trace : TraceShown) (from to : Lane)
    → IsWay (length trace.world.servers) homes from to
    → only_on (from_to from to) (map (λ arrow. arrow.put) (arrows_of homes events trace))
    ≡ only_on (from_to from to) (puts_of trace.event_effects)
unfolding arrows_of arrows_among
on_each_way homes events trace from to is =
    ap (only_on (from_to from to))
    (laid_from_puts (puts_of trace.event_effects) (takes_of homes events trace.event_effects)
    (row_after_all 0 trace.event_effects)
    (ways_of (length trace.world.servers) homes))
    ∙ only_all (from_to from to) (puts_of trace.event_effects) (ways_of (length trace.world.servers) homes)
    ∙ ways_hit (length trace.world.servers) homes from to (only_on (from_to from to) (puts_of trace.event_effects)) is

-- ---- if all that was put is on ways of the picture

equal_either_way : (a b : ℕ) → nat_eq a b ≡ nat_eq b a
equal_either_way a b = elim (cases_eq a b) [
  | inl same ↦ eq-eqb a b same ∙ sym (eq-eqb b a (sym same))
  | inr other ↦ ne_eqb a b other ∙ sym (ne_eqb b a (λ same. other (sym same)))
]

same_lane_either_way : (a b : Lane) → is_same_lane a b ≡ is_same_lane b a
same_lane_either_way (Server i) (Server j) = equal_either_way i j
same_lane_either_way (Server i) (Connection d) = refl
same_lane_either_way (Connection c) (Server j) = refl
same_lane_either_way (Connection c) (Connection d) = equal_either_way c d

same_either_way : (v w : Way) → is_same_way v w ≡ is_same_way w v
same_either_way v w =
    ap (λ (t : Bool). t && is_same_lane v.to w.to) (same_lane_either_way v.from w.from)
    ∙ ap (λ (t : Bool). is_same_lane w.from v.from && t) (same_lane_either_way v.to w.to)

-- a thing stands among those of ways as often as its way does
stands_on : (p : Crossing) (ws : List Way) → flat_map (λ w. if_on w p) ws ≡ hits p.way (p ∷ []) ws
unfolding if_on
stands_on p [] = refl
stands_on p (w ∷ ws) =
    ap (λ (t : Bool). (if t then p ∷ [] else []) ++ flat_map (λ u. if_on u p) ws) (same_either_way p.way w)
    ∙ ap (λ rest. (if is_same_way w p.way then p ∷ [] else []) ++ rest) (stands_on p ws)

interchanged : {X : Type 0} (a b d e : List X) → IsPermutation ((a ++ b) ++ (d ++ e)) ((a ++ d) ++ (b ++ e))
interchanged a b d e =
    rw (append_assoc a b (d ++ e), append_assoc a d (b ++ e), ← append_assoc b d e, ← append_assoc d b e)
    (IsPermutation-append_right a _ _ (IsPermutation-append_left e _ _ (IsPermutation-append_comm b d)))

one_more_put : (p : Crossing) (ps : List Crossing) (ws : List Way)
    → IsPermutation (flat_map (λ w. only_on w (p ∷ ps)) ws)
    (flat_map (λ w. if_on w p) ws ++ flat_map (λ w. only_on w ps) ws)
one_more_put p ps [] = IsPermutation-refl []
one_more_put p ps (w ∷ ws) =
    IsPermutation-trans _ _ _
    (IsPermutation-append_right (if_on w p ++ only_on w ps) _ _ (one_more_put p ps ws))
    (interchanged (if_on w p) (only_on w ps) (flat_map (λ u. if_on u p) ws) (flat_map (λ u. only_on u ps) ws))

none_put : (ws : List Way) → flat_map (λ w. only_on w []) ws ≡ []
none_put [] = refl
none_put (w ∷ ws) = none_put ws

-- those of all ways are all, each once
each_once : (count : ℕ) (homes : List ℕ) (ps : List Crossing)
    → AllByRecursion (IsOnWay count homes) ps
    → IsPermutation (flat_map (λ w. only_on w ps) (ways_of count homes)) ps
each_once count homes [] on = subst (λ none. IsPermutation none []) (sym (none_put (ways_of count homes)))
    (IsPermutation-refl [])
each_once count homes (p ∷ ps) on =
    let one : flat_map (λ w. if_on w p) (ways_of count homes) ≡ p ∷ [] =
    stands_on p (ways_of count homes) ∙ ways_hit count homes p.way.from p.way.to (p ∷ []) on.0 in
    IsPermutation-trans _ _ _ (one_more_put p ps (ways_of count homes))
    (subst (λ front. IsPermutation (front ++ flat_map (λ w. only_on w ps) (ways_of count homes)) (p ∷ ps)) (sym one)
    (IsPermutation-cons p _ _ (each_once count homes ps on.1)))

-- the arrows stand for all that was put, each for one thing
pub each_has_one : (homes : List ℕ) (events : List Event) (trace : TraceShown)
    → AllByRecursion (IsOnWay (length trace.world.servers) homes) (puts_of trace.event_effects)
    → IsPermutation (puts_of trace.event_effects) (map (λ arrow. arrow.put) (arrows_of homes events trace))
unfolding arrows_of arrows_among
each_has_one homes events trace on =
    subst (IsPermutation (puts_of trace.event_effects))
    (sym (laid_from_puts (puts_of trace.event_effects) (takes_of homes events trace.event_effects)
    (row_after_all 0 trace.event_effects)
    (ways_of (length trace.world.servers) homes)))
    (IsPermutation-sym _ _ (each_once (length trace.world.servers) homes (puts_of trace.event_effects) on))
