-- Legal sequential histories: calls with their replies, as one table gives them one after another.
use Rattle.std.specs.Prelude.{◌≡◌, List, [], ◌∷◌}
use Rattle.table.specs.Plain.{PlainTable, opening, apply}
use Rattle.table.specs.declared.operations.Call.{Call}
use Rattle.table.specs.declared.operations.Reply.{Reply}

-- from this table on, each reply is the table's after all calls before it
abbrev pub IsLegalFrom : PlainTable → List (Call × Reply) → Type 0
IsLegalFrom t [] = Unit {0}
IsLegalFrom t (x ∷ xs) = (x.1 ≡ (apply t x.0.target x.0.op).0) × IsLegalFrom (apply t x.0.target x.0.op).1 xs

-- the same from the empty table on
abbrev pub IsLegal : List (Call × Reply) → Type 0
IsLegal history = IsLegalFrom opening history
