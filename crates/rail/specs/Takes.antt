-- What a receiver answers, whose pass has a view before and after.
use Rattle.std.specs.Prelude.{◌≡◌, Option, MatchOption, MatchResult}
use Rattle.std.specs.declared.result.Result.{Result}
use Rattle.rail.specs.declared.faults.RailFault.{RailFault}

-- A message was taken, of which this holds; or nothing changed.
abbrev pub IsTake : {V M : Type 0} → (V → V → M → Type 0) → V → V → Result M RailFault → Type 0
IsTake HasGot v v' r = MatchResult r (HasGot v v') (λ _. v' ≡ v)

-- the same of a try, which may find none
abbrev pub IsTry : {V M : Type 0} → (V → V → M → Type 0) → V → V → Result (Option M) RailFault → Type 0
IsTry HasGot v v' r = MatchResult r (λ found. MatchOption found (v' ≡ v) (HasGot v v')) (λ _. v' ≡ v)
