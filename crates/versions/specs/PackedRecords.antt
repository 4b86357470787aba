-- Serves the fields of the code; no public contract needs it. What a packed record holds.
use Rattle.std.specs.Prelude.{ℕ, [], ◌∷◌, None, Some}
use Rattle.versions.specs.Records.{Record}
use Rattle.versions.specs.declared.packed_records.Both.{Both}
use Rattle.versions.specs.declared.packed_records.Packed.{Packed}
use Rattle.versions.specs.declared.packed_records.Packed.TheVariants as packed

-- an item and numbers
abbrev pub both_of : Both → Record
both_of both = record { item = both.item; numbers = both.numbers }

-- an item alone, a number alone, or both
abbrev pub record_of_packed : Packed → Record
record_of_packed (packed.Item item) = record { item = Some item; numbers = [] }
record_of_packed (packed.Number number) = record { item = None; numbers = number ∷ [] }
record_of_packed (packed.Both both) = both_of both.value
