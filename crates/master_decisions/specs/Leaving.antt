-- Whose answers a master that reigns doesn't count (this project's rule).
use Rattle.std.specs.Prelude.{ℕ, bit_and, nat_eq, Bool, not, ◌&&◌, Option, None, if◌then◌else◌}
use Rattle.node.specs.Views.{View}
use Rattle.master_decisions.specs.declared.leaving.Leaving.{Leaving}
use Rattle.master_decisions.specs.Openings.{is_that}
use Rattle.master_decisions.specs.ServerSets.{is_among}

-- each answer counts
abbrev pub nobody_left : Leaving
nobody_left = record { left = None; told = 0 }

-- whose answers don't count if this one is to go: nobody's as long as one lives that was told that it is gone
abbrev pub left_by : View → View → Option ℕ → Option ℕ
left_by told living to_go = if nat_eq (bit_and told living) 0 then to_go else None

-- it is one of these, and wasn't told that it is gone
abbrev pub remains : View → View → ℕ → Bool
remains told living i = is_among living i && not (is_among told i)

-- the answers of this one don't count
abbrev pub is_left : Leaving → ℕ → Bool
is_left l i = is_that l.left i
