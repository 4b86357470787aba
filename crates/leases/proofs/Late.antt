-- Looks that wrong rules answer late.
use Rattle.std.proofs.Common.{ℕ, ◌+◌, ◌-◌, ◌*◌, ◌≤◌, ◌<◌, arith}
use Rattle.leases.specs.declared.terms.TheConstants.{GRAIN}
use Rattle.leases.specs.Clocks.{Clock}
use Rattle.leases.specs.Leases.{Beat, LeasedAnswer}
use Rattle.leases.specs.WrongRules.{IsLateByReceipt, IsLateByTerm, IsLateByLooking}

pub late_by_receipt : (term wait : ℕ) → 0 < term
    → (beat : Beat) × ((look : LeasedAnswer) × IsLateByReceipt term wait beat look)
late_by_receipt term wait some = (
  record { epoch = 1; stamped = 0; heard = 0; taken = wait },
  (
    record { taken = wait; read = wait },
    record { sent = omega arith; came = omega arith; after = omega arith; held = omega arith; late = omega arith },
  ),
)

-- clocks of 11 and of 10 at each step are near enough
near : (grain a b : ℕ) → a ≤ b → 10 * (11 * b - 11 * a) ≤ 11 * (10 * b - 10 * a + grain)
near grain a b order = omega arith

pub late_by_term : (master : Clock) × ((server : Clock) × ((term : ℕ) × ((beat : Beat) × ((look : LeasedAnswer)
    × IsLateByTerm master server term beat look))))
late_by_term = (
  (λ x. 11 * x),
  (
    (λ x. 10 * x),
    (
      11,
      (
        record { epoch = 1; stamped = 0; heard = 0; taken = 0 },
        (
          record { taken = 1; read = 1 },
          record {
            pace = near GRAIN;
            heard = omega arith;
            answered = record { after = omega arith; held = omega arith };
            late = omega arith;
          },
        ),
      ),
    ),
  ),
)

pub late_by_looking : (term wait : ℕ) → 0 < term
    → (beat : Beat) × ((look : LeasedAnswer) × IsLateByLooking term wait beat look)
late_by_looking term wait some = (
  record { epoch = 1; stamped = 0; heard = 0; taken = 0 },
  (
    record { taken = wait; read = 0 },
    record { before = omega arith; held = omega arith; heard = omega arith; late = omega arith },
  ),
)
