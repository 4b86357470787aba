-- Numbers that don't fit are below no limit.
use Rattle.std.proofs.Common.{◌≡◌, ◌↔◌, ◌<◌, ℕ, true, false, arith, sym}

-- what isn't below a bound is below no limit that is
pub not_below : (bound limit n : ℕ)
    → limit < bound
    → (n < bound → ⊥)
    → (false ≡ true) ↔ (n < limit)
not_below bound limit n fits over = (
  λ yes. let bad : true ≡ false = sym yes in cc,
  λ below. absurd (over (omega arith)),
)
