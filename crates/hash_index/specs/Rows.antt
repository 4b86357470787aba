-- Values in rows of one size.
use Rattle.std.specs.Prelude.{◌≡◌, ℕ, ◌-◌, min, List, [], ◌∷◌, length}
use Rattle.std.specs.List.{flat_map}
use Rattle.std.specs.Global.{Vec}

-- the values of all rows
abbrev pub joined_rows : {T : Type 0} → List (Vec T) → List T
joined_rows rows = flat_map (λ r. r.items) rows

-- rows of 512 values each hold this count of them: all are full but the last that has any
abbrev pub AreRows : {T : Type 0} → List (Vec T) → ℕ → Type 0
AreRows [] count = count ≡ 0
AreRows (r ∷ rs) count = (length r.items ≡ min count 512) × AreRows rs (count - 512)
