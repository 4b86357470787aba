-- The laws of chains that begin with a table, for each count of servers.
use Rattle.std.proofs.Common.{◌≡◌, ℕ, zero, suc, ◌+◌, ◌-◌, ◌*◌, ◌^◌, ◌<◌, ◌≤◌, List, ◌∷◌, length, refl, arith, subst}
use Rattle.std.proofs.Common.{lit≤, lt_of_lt_of_le, mul-le-mul_left}
use Rattle.table.specs.Plain.{PlainTable}
use Rattle.node.specs.Servers.{most}
use Rattle.world.specs.Orders.{OrderedCall}
use Rattle.interleavings.specs.Moves.{Move, moved_from}
use Rattle.interleavings.specs.Asked.{AreAsked}
use Rattle.interleavings.specs.Quiet.{IsQuiet, NoneForgotten}
use Rattle.interleavings.specs.Restored.{IsReached, restored_chain}
use Rattle.interleavings.specs.OrdersFrom.{IsLinearizationFrom, IsInTurnFrom, IsHeld, LeavesWhatIsHeld}
use Rattle.interleavings.specs.Lives.{Generation, LifeMove, LifeCall, AreSuccessive, IsLifeOrder}
use Rattle.interleavings.proofs.quiet.Answering.{none_forgotten}
use Rattle.interleavings.proofs.restored.FromTables.{all_homes, whole, rest, linearized, in_turn, leaves, whole_asked}
use Rattle.interleavings.proofs.restored.FromTables.{whole_length, none_forgotten_beside}
use Rattle.interleavings.proofs.restored.Leaving.{order_leaving}
use Rattle.interleavings.proofs.restored.HeldTables.{order_reaches}
use Rattle.interleavings.proofs.restored.LifeOrders.{life_order}

-- every run of such a chain has an order, from the table on
pub order_from : (count : ℕ) (homes : List ℕ) (t : PlainTable) (moves : List Move)
    → 1 ≤ count
    → count ≤ 16
    → IsReached t
    → t.count < most
    → AreAsked moves
    → (h : List OrderedCall) × IsLinearizationFrom t (restored_chain count homes t) moves h
    × IsInTurnFrom (restored_chain count homes t) moves h
    × LeavesWhatIsHeld t (moved_from (restored_chain count homes t) moves) h
order_from zero homes t moves some few r numbers asked = absurd (omega (arith, some))
order_from (suc n) homes t moves some few r numbers asked =
    let o = order_leaving (suc n) (all_homes n homes t r numbers moves) (whole n homes t r numbers moves) few
    (whole_asked n homes t r numbers moves asked) in (
      rest n homes t r numbers moves o.0 o.1,
      linearized n homes t r numbers moves o.0 o.1,
      in_turn n homes t r numbers moves o.0 o.1 o.2,
      leaves n homes t r numbers moves o.0 o.1 o.3,
    )

-- numbers enough are left
numbers_left : (c : ℕ) (m : ℕ) → c * 128 + m < 2 ^ 62 → c < most
unfolding most
numbers_left c m l = lt_of_lt_of_le (low c m (2 ^ 62) l) (lit≤ tt)
  where
    low : (c m b : ℕ) → c * 128 + m < b → c < b
    low c m b l = omega (arith, l)

short_enough : (k c m n b : ℕ) → k ≤ 16 → n ≡ c * (8 * k - 3) + m → c * 128 + m < b → n < b
short_enough k c m n b few e l =
    let small : 8 * k - 3 ≤ 128 = omega (arith, few) in
    let f = mul-le-mul_left c small in
    omega (arith, e, l, f)

-- and no call of it is forgotten
pub none_forgotten_from : (count : ℕ) (homes : List ℕ) (t : PlainTable) (moves : List Move)
    → 1 ≤ count
    → count ≤ 16
    → IsReached t
    → t.count * 128 + length moves < 2 ^ 62
    → AreAsked moves
    → IsQuiet (moved_from (restored_chain count homes t) moves)
    → NoneForgotten (moved_from (restored_chain count homes t) moves)
none_forgotten_from zero homes t moves some few r short asked quiet = absurd (omega (arith, some))
none_forgotten_from (suc n) homes t moves some few r short asked quiet =
    let numbers = numbers_left t.count (length moves) short in
    none_forgotten_beside n homes t r numbers moves
    (none_forgotten (suc n) (all_homes n homes t r numbers moves) (whole n homes t r numbers moves) few
    (short_enough (suc n) t.count (length moves) (length (whole n homes t r numbers moves)) (2 ^ 62) few
    (whole_length n homes t r numbers moves) short) (whole_asked n homes t r numbers moves asked)) quiet

-- what is held in the end is reached
pub held_reached : (count : ℕ) (homes : List ℕ) (t u : PlainTable) (moves : List Move)
    → 1 ≤ count
    → count ≤ 16
    → IsReached t
    → t.count < most
    → AreAsked moves
    → IsHeld (moved_from (restored_chain count homes t) moves) u
    → IsReached u
held_reached count homes t u moves some few r numbers asked held =
    let o = order_from count homes t moves some few r numbers asked in
    subst IsReached (o.3 u held)
    (order_reaches (restored_chain count homes t) moves o.0 t (λ c. refl) asked o.1.begun r)

-- the calls of chains that follow one another have one order
pub order_of_life : (first : Generation) (later : List Generation) (moves : List LifeMove)
    → AreSuccessive (first ∷ later) moves
    → (h : List LifeCall) × IsLifeOrder first.table (first ∷ later) moves h
order_of_life first later moves s =
    life_order (λ x ms some few reached numbers asked.
    order_from x.count x.homes x.table ms some few reached numbers asked) (first ∷ later) moves s first refl
