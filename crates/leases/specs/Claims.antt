-- The master's side: which epoch is its own, and when it takes a new one.
use Rattle.std.specs.Prelude.{ℕ, ◌-◌, max, Bool, not, ◌&&◌, ◌||◌, nat_eq, nat_le, nat_lt, if◌then◌else◌}
use Rattle.leases.specs.declared.orders.Report.{Report}

-- What a master knows of epochs. Times are what its clock shows.
pub record ClaimState : Type 0 where
  -- its name
  pub name : ℕ
  -- if nobody prolonged a lease for so long, no master sends beats
  pub after : ℕ
  -- its own epoch; 0 before the first
  pub epoch : ℕ
  -- the highest epoch that a server was in
  pub highest : ℕ
  -- when it saw for the last time that a lease was prolonged
  pub moved : ℕ

-- it has just started
abbrev pub unclaimed : ℕ → ℕ → ℕ → ClaimState
unclaimed name after now = record { name = name; after = after; epoch = 0; highest = 0; moved = now }

-- a server told how it is, whose lease ended then when it was heard before
abbrev pub informed : ClaimState → Report → ℕ → ℕ → ClaimState
informed claim report last now = record claim {
  highest = max claim.highest report.epoch;
  moved = (if nat_lt last report.end then max claim.moved now else claim.moved);
}

-- its epoch is the last one, as far as it knows
abbrev pub is_reigning : ClaimState → Bool
is_reigning claim = nat_lt 0 claim.epoch && nat_eq claim.epoch claim.highest

-- no other master sends beats
abbrev pub is_vacant : ClaimState → ℕ → Bool
is_vacant claim now = nat_le claim.after (now - claim.moved)

-- It takes a new epoch if it isn't reigning: at first, once all servers were met that aren't gone; and later once no
-- other master sends beats.
abbrev pub is_due : ClaimState → Bool → ℕ → Bool
is_due claim met now = not (is_reigning claim) && ((nat_eq claim.epoch 0 && met) || is_vacant claim now)

-- it has taken this epoch
abbrev pub claimed : ClaimState → ℕ → ℕ → ClaimState
claimed claim epoch now = record claim { epoch = epoch; highest = epoch; moved = now }
