-- A run in two parts, and runs whose moves do what they do.
use Rattle.std.proofs.Common.{◌≡◌, ℕ, List, [], ◌∷◌, ◌++◌, take, refl, ap, sym, ◌∙◌, subst}
use Rattle.std.specs.Prelude.{IsSome}
use Rattle.world.specs.Calls.{CallId}
use Rattle.world.specs.Orders.{OrderedCall}
use Rattle.interleavings.specs.Chains.{Chain, opening_chain}
use Rattle.interleavings.specs.Moves.{Move, done, moved_from, moved}
use Rattle.interleavings.specs.Orders.{begun_call, reply_to, Precedes, IsLinearization}
pub use Rattle.interleavings.proofs.lists.TwoParts.{moved_from-append}
use Rattle.interleavings.specs.OtherMoves.{Doing, moved_from_by, moved_by, PrecedesBy, IsLinearizationBy}

-- one part after the other, of moves that do something else
pub moved_from_by-append : (does : Doing) (l : Chain) (ms ns : List Move)
    → moved_from_by does l (ms ++ ns) ≡ moved_from_by does (moved_from_by does l ms) ns
moved_from_by-append does l [] ns = refl
moved_from_by-append does l (m ∷ ms) ns = moved_from_by-append does (does l m) ms ns

-- ---- moves that do what they do

same_from : (l : Chain) (ms : List Move) → moved_from_by done l ms ≡ moved_from l ms
same_from l [] = refl
same_from l (m ∷ ms) = same_from (done l m) ms

module _ (count : ℕ) (homes : List ℕ) (moves : List Move) (h : List OrderedCall) where
  same : (ms : List Move) → moved_by done count homes ms ≡ moved count homes ms
  same ms = same_from (opening_chain count homes) ms

  precedes_by : (x y : CallId) → Precedes count homes moves x y → PrecedesBy done count homes moves x y
  precedes_by x y p = record {
    k = p.k;
    answered = subst (λ l. IsSome (reply_to l x)) (sym (same (take p.k moves))) p.answered;
    not_begun = ap (λ l. begun_call l y) (same (take p.k moves)) ∙ p.not_begun;
  }

  precedes : (x y : CallId) → PrecedesBy done count homes moves x y → Precedes count homes moves x y
  precedes x y p = record {
    k = p.k;
    answered = subst (λ l. IsSome (reply_to l x)) (same (take p.k moves)) p.answered;
    not_begun = ap (λ l. begun_call l y) (sym (same (take p.k moves))) ∙ p.not_begun;
  }

  -- their orders are those of the law
  pub order_of_moves : IsLinearizationBy done count homes moves h → IsLinearization count homes moves h
  order_of_moves o = record {
    legal = o.legal;
    begun = λ i e here. ap (λ l. begun_call l e.id) (sym (same moves)) ∙ o.begun i e here;
    once = o.once;
    answered = λ x reply got. o.answered x reply (ap (λ l. reply_to l x) (same moves) ∙ got);
    in_time = λ x y j p s. o.in_time x y j (precedes_by x y p) s;
  }

  -- and the other way round
  pub order_by_moves : IsLinearization count homes moves h → IsLinearizationBy done count homes moves h
  order_by_moves o = record {
    legal = o.legal;
    begun = λ i e here. ap (λ l. begun_call l e.id) (same moves) ∙ o.begun i e here;
    once = o.once;
    answered = λ x reply got. o.answered x reply (ap (λ l. reply_to l x) (sym (same moves)) ∙ got);
    in_time = λ x y j p s. o.in_time x y j (precedes x y p) s;
  }
