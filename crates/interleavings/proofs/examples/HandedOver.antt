-- A chain hands its table over to another one: they follow one another, and each answers its set.
use Rattle.std.proofs.Common.{◌≡◌, ◌≢◌, ℕ, zero, suc, ◌<◌, ◌≤◌, true, false, cond, List, [], ◌∷◌, ◌++◌, take, None}
use Rattle.std.proofs.Common.{Some, refl, arith, ap, ◌∙◌, sym, subst, lit<}
use Rattle.std.specs.Prelude.{slice_get, IsSome}
use Rattle.std.proofs.lemmas.Bool.{ne_eqb}
use Rattle.std.proofs.lemmas.Option.{same_Some}
use Rattle.table.specs.declared.operations.Reply.TheVariants.{Stored}
use Rattle.node.specs.Numbering.{left_open, replies, risen, appended, passed_on, take_update, entered}
use Rattle.node.specs.Servers.{most}
use Rattle.node.specs.Steps.{trimmed}
use Rattle.node.specs.Views.{has, union, single, is_below, adds, next_from, predecessor}
use Rattle.world.specs.Calls.{CallId}
use Rattle.interleavings.specs.Chains.{with_at, OfSeat}
use Rattle.interleavings.specs.Moves.{Move, Sends, Takes, Publishes, Replies, Receives, moved_from}
use Rattle.interleavings.specs.Asked.{AreAsked}
use Rattle.interleavings.specs.Orders.{begun_call}
use Rattle.interleavings.specs.Restored.{IsReached}
use Rattle.interleavings.specs.OrdersFrom.{IsHeld}
use Rattle.interleavings.specs.Lives.{Generation, moves_of, start_of, run_of, begun_in, reply_in, AreSuccessive}
use Rattle.interleavings.specs.WorkedRuns.{set}
use Rattle.interleavings.specs.WorkedStarts.{set_table, first_chain, second_chain, two_chains, in_chain, set_alone}
use Rattle.interleavings.specs.WorkedStarts.{life_moves, set_of_chain}
use Rattle.interleavings.proofs.examples.AskedCalls.{set_asked}
use Rattle.interleavings.proofs.restored.LifeOrders.{moves-append}

-- each set is answered
pub first_stored : reply_in two_chains life_moves (set_of_chain 0) ≡ Some Stored
unfolding life_moves with_at has union single is_below adds next_from predecessor most appended entered trimmed
    left_open replies risen passed_on take_update
first_stored = refl

pub second_stored : reply_in two_chains life_moves (set_of_chain 1) ≡ Some Stored
unfolding life_moves with_at has union single is_below adds next_from predecessor most appended entered trimmed
    left_open replies risen passed_on take_update
second_stored = refl

-- the first chain holds the table of the second one
held : IsHeld (run_of first_chain 0 life_moves) set_table
unfolding life_moves with_at has union single is_below adds next_from predecessor most appended entered trimmed
    left_open replies risen passed_on take_update
held = record { server = 0; going = refl; items = refl; count = refl; whole = refl }

-- each of two chains
by_two : (P : ℕ → Generation → Type 0) → P 0 first_chain → P 1 second_chain
    → (g : ℕ) (x : Generation)
    → slice_get two_chains g ≡ Some x
    → P g x
by_two P a b zero x e = subst (P 0) (same_Some first_chain x e) a
by_two P a b (suc zero) x e = subst (P 1) (same_Some second_chain x e) b
by_two P a b (suc (suc g)) x e = (let no : None ≡ Some x = e in absurd cc)

-- clients can ask all calls
none_of_other : (h g : ℕ) (ms : List Move) → h ≢ g → moves_of g (in_chain h ms) ≡ []
none_of_other h g [] other = refl
none_of_other h g (m ∷ ms) other =
    ap (λ b. cond b (m ∷ moves_of g (in_chain h ms)) (moves_of g (in_chain h ms))) (ne_eqb h g other)
    ∙ none_of_other h g ms other

none_there : (g : ℕ) → moves_of (suc (suc g)) life_moves ≡ []
unfolding life_moves
none_there g =
    moves-append (suc (suc g)) (in_chain 0 set_alone) (in_chain 1 set_alone)
    ∙ ap (λ ms. ms ++ moves_of (suc (suc g)) (in_chain 1 set_alone))
    (none_of_other 0 (suc (suc g)) set_alone (λ e. omega (arith, e)))
    ∙ none_of_other 1 (suc (suc g)) set_alone (λ e. omega (arith, e))

asked : (g : ℕ) → AreAsked (moves_of g life_moves)
unfolding life_moves
asked zero = (set_asked, (tt, (tt, (tt, (tt, tt)))))
asked (suc zero) = (set_asked, (tt, (tt, (tt, (tt, tt)))))
asked (suc (suc g)) = subst AreAsked (sym (none_there g)) tt

-- numbers are left
few_numbers : (g : ℕ) (x : Generation) → slice_get two_chains g ≡ Some x → x.table.count < most
unfolding most
few_numbers = by_two (λ g x. x.table.count < most) (lit< tt) (lit< tt)

-- ---- no call of the first chain is begun after one of the second

none_of_first : (k : ℕ) (ms : List Move) → moves_of 0 (take k (in_chain 1 ms)) ≡ []
none_of_first zero ms = refl
none_of_first (suc k) [] = refl
none_of_first (suc k) (m ∷ ms) = none_of_first k ms

retired_by : (k : ℕ) (u v : CallId)
    → IsSome (begun_in two_chains (take k life_moves) (record { chain = 1; id = v }))
    → IsSome (begun_in two_chains life_moves (record { chain = 0; id = u }))
    → IsSome (begun_in two_chains (take k life_moves) (record { chain = 0; id = u }))
unfolding life_moves
retired_by zero u v e f = absurd (let no : false ≡ true = e in cc)
retired_by (suc zero) u v e f = absurd (let no : false ≡ true = e in cc)
retired_by (suc (suc zero)) u v e f = absurd (let no : false ≡ true = e in cc)
retired_by (suc (suc (suc zero))) u v e f = absurd (let no : false ≡ true = e in cc)
retired_by (suc (suc (suc (suc zero)))) u v e f = absurd (let no : false ≡ true = e in cc)
retired_by (suc (suc (suc (suc (suc k))))) u v e f =
    subst (λ ms. IsSome (begun_call (moved_from (start_of first_chain)
    (Sends 0 set ∷ Takes 0 (OfSeat 0) ∷ Publishes 0 ∷ Replies 0 0 ∷ Receives 0 ∷ ms)) u))
    (sym (none_of_first k set_alone)) f

retired : (k a b : ℕ) (u v : CallId)
    → a < b
    → IsSome (begun_in two_chains (take k life_moves) (record { chain = b; id = v }))
    → IsSome (begun_in two_chains life_moves (record { chain = a; id = u }))
    → IsSome (begun_in two_chains (take k life_moves) (record { chain = a; id = u }))
retired k a zero u v l e f = absurd (omega (arith, l))
retired k zero (suc zero) u v l e f = retired_by k u v e f
retired k (suc a) (suc zero) u v l e f = absurd (omega (arith, l))
retired k a (suc (suc b)) u v l e f = absurd (let no : false ≡ true = e in cc)

-- so they follow one another
pub handed_over : AreSuccessive two_chains life_moves
handed_over = record {
  some = by_two (λ g x. 1 ≤ x.count) (omega arith) (omega arith);
  few = by_two (λ g x. x.count ≤ 16) (omega arith) (omega arith);
  numbers = few_numbers;
  reached = λ x e. subst (λ (y : Generation). IsReached y.table) (same_Some first_chain x e)
      (record { updates = []; asked = tt; leave = refl });
  asked = asked;
  handed = λ g x y here next. followed g x y here next;
  retired = λ k x y l e f. retired k x.chain y.chain x.id y.id l e f;
}
  where
    followed : (g : ℕ) (x y : Generation)
        → slice_get two_chains g ≡ Some x
        → slice_get two_chains (suc g) ≡ Some y
        → IsHeld (run_of x g life_moves) y.table
    followed zero x y here next =
        subst (λ z. IsHeld (run_of z 0 life_moves) y.table) (same_Some first_chain x here)
        (subst (λ (z : Generation). IsHeld (run_of first_chain 0 life_moves) z.table) (same_Some second_chain y next)
        held)
    followed (suc g) x y here next = (let no : None ≡ Some y = next in absurd cc)
