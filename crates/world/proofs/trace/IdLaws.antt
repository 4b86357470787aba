-- The last living server of a world, and what views tell of heads, tails and neighbours.
use Rattle.std.proofs.Common.{◌≡◌, ℕ, ◌<◌, ◌≤◌, true, false, length, Option, Some, None, refl, arith, inl, inr}
use Rattle.std.specs.Prelude.{not, nat_lt}
use Rattle.std.proofs.lemmas.Bool.{and_parts, and_from, both_ways, cases_order, ltb-true, lt-ltb, not-true}
use Rattle.std.proofs.lemmas.Bool.{not_from_false}
pub use Rattle.node.proofs.ViewLaws.{has-union, has-single_other, has_single, nowhere, named-below, IsNext, next_is}
pub use Rattle.node.proofs.ViewLaws.{next_within_many, no_next, IsPredecessor, predecessor_is, no_predecessor}
pub use Rattle.node.proofs.Neighbours.{that_is, is_itself, IsHead, head_is, no_head, heads_agree, head_from, no_tail}
pub use Rattle.node.proofs.Neighbours.{predecessor_agree, predecessor_from, IsFollowing, following_is, no_following}
pub use Rattle.node.proofs.Neighbours.{following_agree, following_from, head_of_is, tail_of_is, at_head, at_tail}
pub use Rattle.node.proofs.Neighbours.{predecessor_found, successor_found}
use Rattle.node.specs.Views.{has}
use Rattle.world.specs.Worlds.{World, lives}
use Rattle.world.proofs.trace.Traces.{last_living}

-- ---- the last living server

-- who lives is one of the chain, and hasn't failed
pub living_parts : (w : World) (i : ℕ) → lives w i ≡ true → (i < length w.servers) × (has w.failed i ≡ false)
living_parts w i h =
    let p = and_parts (nat_lt i (length w.servers)) (not (has w.failed i)) h in (ltb-true _ _ p.0, not-true _ p.1)

-- who is one of the chain and hasn't failed lives
pub living_from : (w : World) (i : ℕ) → i < length w.servers → has w.failed i ≡ false → lives w i ≡ true
living_from w i l h = and_from _ _ (lt-ltb _ _ l) (not_from_false _ h)

-- the last living server lives
pub last_lives : (w : World) (k : ℕ) → last_living w ≡ Some k → lives w k ≡ true
last_lives w k h = let r = predecessor_is w.failed (length w.servers) k h in living_from w k r.below r.out

-- a living server is the last one, or stands before it
pub before_last : (w : World) (i k : ℕ) → lives w i ≡ true → last_living w ≡ Some k → i ≤ k
before_last w i k h e =
    let p = living_parts w i h in
    let r = predecessor_is w.failed (length w.servers) k e in
    elim (cases_order i k) [
      | inl same ↦ omega (arith, same)
      | inr other ↦ elim other
          [ inl less ↦ omega (arith, less) | inr greater ↦ absurd (both_ways _ p.1 (r.between i greater p.0)) ]
    ]

found_last : (w : World) (i : ℕ) (o : Option ℕ) → lives w i ≡ true → last_living w ≡ o → (k : ℕ) × (o ≡ Some k)
found_last w i None h e =
    absurd (let p = living_parts w i h in both_ways _ p.1 (no_predecessor w.failed (length w.servers) e i p.0))
found_last w i (Some k) h e = (k, refl)

-- if one lives there is a last one
pub has_last : (w : World) (i : ℕ) → lives w i ≡ true → (k : ℕ) × (last_living w ≡ Some k)
has_last w i h = found_last w i (last_living w) h refl
