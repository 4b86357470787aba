-- Rolls: what stays as it is, and whom a whole one has.
use Rattle.std.proofs.Common.{◌≡◌, ℕ, ◌⊎◌, true, false, bit_or, if◌then◌else◌, refl}
use Rattle.leases.specs.Sets.{has, is_apart}
use Rattle.leases.specs.Rolls.{RollState, enters, is_whole}
use Rattle.leases.proofs.Bits.{either_has, all_has}

-- who enters changes neither whose roll it is, nor which other servers there are, nor whom it knew to be gone
pub own-enters : (roll : RollState) (other gone : ℕ) → (enters roll other gone).own ≡ roll.own
own-enters roll other gone =
    elim (is_apart gone roll.own) as
    (λ v. (if v then record roll { entered = bit_or roll.entered other } else roll).own ≡ roll.own) [
      | true ↦ refl
      | false ↦ refl
    ]

pub others-enters : (roll : RollState) (other gone : ℕ) → (enters roll other gone).others ≡ roll.others
others-enters roll other gone =
    elim (is_apart gone roll.own) as
    (λ v. (if v then record roll { entered = bit_or roll.entered other } else roll).others ≡ roll.others) [
      | true ↦ refl
      | false ↦ refl
    ]

pub known-enters : (roll : RollState) (other gone : ℕ) → (enters roll other gone).known ≡ roll.known
known-enters roll other gone =
    elim (is_apart gone roll.own) as
    (λ v. (if v then record roll { entered = bit_or roll.entered other } else roll).known ≡ roll.known) [
      | true ↦ refl
      | false ↦ refl
    ]

-- a whole roll has each other server, as one that has entered or as one that was known to be gone
pub one_of : (roll : RollState) (id : ℕ)
    → is_whole roll ≡ true
    → has roll.others id ≡ true
    → (has roll.entered id ≡ true) ⊎ (has roll.known id ≡ true)
one_of roll id whole named =
    either_has roll.entered roll.known id (all_has (bit_or roll.entered roll.known) roll.others id whole named)
