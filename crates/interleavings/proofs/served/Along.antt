-- A run of a chain that serves is a run of the chain, and what holds of seats and connections holds along it.
use Rattle.std.proofs.Common.{◌≡◌, ℕ, zero, suc, ◌<◌, ◌≤◌, List, [], ◌∷◌, ◌++◌, length, take, refl, arith, inl, inr, ap}
use Rattle.std.proofs.Common.{sym, ◌∙◌, append_assoc, length-append}
use Rattle.std.proofs.lemmas.Bool.{cases_lt}
use Rattle.interleavings.specs.Moves.{Move, moved_from, done}
use Rattle.interleavings.specs.Asked.{AreAsked}
use Rattle.interleavings.specs.ServingMoves.{ServingChain, ServingMove, served_by, served_from, opening_serving}
use Rattle.interleavings.proofs.examples.InTwoParts.{moved_from-append}
use Rattle.interleavings.proofs.served.Connected.{connected_opening}
use Rattle.interleavings.proofs.served.InTurn.{upto}
use Rattle.interleavings.proofs.served.Steps.{calls_at, replies_at, IsInOrder, Grows, grows_same, grows_more}
use Rattle.interleavings.proofs.served.EachMove.{step}

-- one part after the other
pub served_from-append : (s : ServingChain) (ms ns : List ServingMove)
    → served_from done s (ms ++ ns) ≡ served_from done (served_from done s ms) ns
served_from-append s [] ns = refl
served_from-append s (m ∷ ms) ns = served_from-append (served_by done s m) ms ns

-- before any move
pub opening_order : (count : ℕ) (homes : List ℕ) → IsInOrder (opening_serving count homes)
unfolding upto
opening_order count homes = record {
  connected = λ c n. connected_opening;
  seats = λ c. record {
    all_calls = refl;
    later = λ i l. (refl, refl);
    placed = λ n q l. absurd (omega (arith, l));
    open_one = λ l. absurd (omega (arith, l));
  };
}

-- the moves of the running chain
pub made_along : (ms : List ServingMove) (s : ServingChain) → IsInOrder s → List Move
made_along [] s h = []
made_along (m ∷ ms) s h = (step s m h).moves ++ made_along ms (served_by done s m) (step s m h).order

-- what holds at first holds after a run
pub order_along : (ms : List ServingMove) (s : ServingChain) → IsInOrder s → IsInOrder (served_from done s ms)
order_along [] s h = h
order_along (m ∷ ms) s h = order_along ms (served_by done s m) (step s m h).order

-- the chain is what these moves make of it
pub chain_along : (ms : List ServingMove) (s : ServingChain) (h : IsInOrder s)
    → (served_from done s ms).chain ≡ moved_from s.chain (made_along ms s h)
unfolding made_along
chain_along [] s h = refl
chain_along (m ∷ ms) s h =
    let one = step s m h in
    let rest = made_along ms (served_by done s m) one.order in
    chain_along ms (served_by done s m) one.order ∙ ap (λ l. moved_from l rest) one.chain
    ∙ sym (moved_from-append s.chain one.moves rest)

-- there are at most as many
pub short_along : (ms : List ServingMove) (s : ServingChain) (h : IsInOrder s)
    → length (made_along ms s h) ≤ length ms
unfolding made_along
short_along [] s h = omega arith
short_along (m ∷ ms) s h =
    let one = step s m h in
    let n = length-append one.moves (made_along ms (served_by done s m) one.order) in
    let a = one.short in
    let b = short_along ms (served_by done s m) one.order in
    omega (arith, n, a, b)

-- two lists of moves whose calls clients can ask
pub both_asked : (ms ns : List Move) → AreAsked ms → AreAsked ns → AreAsked (ms ++ ns)
both_asked [] ns a b = b
both_asked (m ∷ ms) ns a b = (a.0, both_asked ms ns a.1 b)

-- clients can ask all calls of a run
pub asked_along : (ms : List ServingMove) (s : ServingChain) (h : IsInOrder s) → AreAsked (made_along ms s h)
unfolding made_along
asked_along [] s h = tt
asked_along (m ∷ ms) s h =
    let one = step s m h in
    both_asked one.moves (made_along ms (served_by done s m) one.order) one.asked
    (asked_along ms (served_by done s m) one.order)

grows_along : (ms : List ServingMove) (s : ServingChain) → IsInOrder s → Grows s (served_from done s ms)
grows_along [] s h = grows_same s
grows_along (m ∷ ms) s h =
    let one = step s m h in
    grows_more s (served_by done s m) (served_from done (served_by done s m) ms) one.grows
    (grows_along ms (served_by done s m) one.order)

-- ---- after some first k moves

-- from there to the end it grows
pub grows_from : (k : ℕ) (ms : List ServingMove) (s : ServingChain)
    → IsInOrder s
    → Grows (served_from done s (take k ms)) (served_from done s ms)
grows_from zero ms s h = grows_along ms s h
grows_from (suc k) [] s h = grows_same s
grows_from (suc k) (m ∷ ms) s h = grows_from k ms (served_by done s m) (step s m h).order

-- their moves are the first ones of the whole run
pub first_along : (k : ℕ) (ms : List ServingMove) (s : ServingChain) (h : IsInOrder s)
    → (rest : List Move) × (made_along ms s h ≡ made_along (take k ms) s h ++ rest)
unfolding made_along
first_along zero ms s h = (made_along ms s h, refl)
first_along (suc k) [] s h = ([], refl)
first_along (suc k) (m ∷ ms) s h =
    let one = step s m h in
    let f = first_along k ms (served_by done s m) one.order in (
      f.0,
      ap (λ xs. one.moves ++ xs) f.1
          ∙ sym (append_assoc one.moves (made_along (take k ms) (served_by done s m) one.order) f.0),
    )

-- A call that isn't made at first, and is made in the end: after some first k moves it isn't made, and each call that
-- its connection makes before it has its reply.
pub earlier_answered : (ms : List ServingMove) (s : ServingChain) (c n p q : ℕ)
    → IsInOrder s
    → p < q
    → length (calls_at s c n) ≤ q
    → q < length (calls_at (served_from done s ms) c n)
    → (k : ℕ) × (p < length (replies_at (served_from done s (take k ms)) c n))
    × (length (calls_at (served_from done s (take k ms)) c n) ≤ q)
earlier_answered [] s c n p q h less before after = absurd (omega (arith, before, after))
earlier_answered (m ∷ ms) s c n p q h less before after =
    elim (cases_lt q (length (calls_at (served_by done s m) c n))) [
      | inl now ↦
          let even = (step s m h).makes c n q before now in
          (0, omega (arith, even, less), before)
      | inr still ↦
          let r = earlier_answered ms (served_by done s m) c n p q (step s m h).order less still after in
          (suc r.0, r.1, r.2)
    ]
